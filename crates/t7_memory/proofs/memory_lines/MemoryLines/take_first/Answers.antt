use Rattle.std.proofs.Common.{rules, ◌≡◌, List, [], ◌∷◌, ◌++◌, Option, Some, None, length, slice_get, sym, ◌∙◌, ap}
use Rattle.t7_net.specs.declared.line.LineItem.{LineItem}
use Rattle.t7_net.specs.declared.line.LineItem.TheVariants.{Quiet}
use Rattle.t7_net.specs.Lines.{line_taken}
use Rattle.t7_memory.specs.LinesStates.{LinesState, cut_receipt, receipts_of}
use Rattle.t7_memory.proofs.Receipts.{line_at, no_line_at, receipts_more}
use Rattle.t7_memory.proofs.memory_lines.MemoryLines.take_first.Goals as goal

pub returns-in_default-clause-taken : goal.returns-in_default-clause-taken
returns-in_default-clause-taken c =
    let items = c.self.inside.items.items in
    let counts = c.self.inside.counts.items in
    let told : receipts_of c.self.inside.items.items c.self.inside.counts.items ≡ c.args.self.now.taken = ap (λ (s : LinesState). s.taken) c.self.view_is in
    let items_are : c.deref.result.now ≡ c.self.inside.items.items = c.deref.ensures.value in
    let at_is : c.len.result ≡ length c.self.inside.counts.items = search rules in
    let there : slice_get c.deref.result.now c.len.result ≡ None = no_line_at _ _ c.in_default.ensures.lookup.0 in
    let none : slice_get c.self.inside.items.items (length c.self.inside.counts.items) ≡ None = rw (← items_are, ← at_is) there in
    ap (receipts_of items) c.push_reserved.ensures.items
    ∙ receipts_more items counts 0
    ∙ ap (λ (o : Option LineItem). receipts_of items counts ++ cut_receipt o 0 ∷ []) none
    ∙ ap (λ (l : List LineItem). l ++ Quiet ∷ []) told

pub returns-clause-taken : goal.returns-clause-taken
returns-clause-taken c =
    let items = c.self.inside.items.items in
    let counts = c.self.inside.counts.items in
    let told : receipts_of c.self.inside.items.items c.self.inside.counts.items ≡ c.args.self.now.taken = ap (λ (s : LinesState). s.taken) c.self.view_is in
    let items_are : c.deref.result.now ≡ c.self.inside.items.items = c.deref.ensures.value in
    let at_is : c.len.result ≡ length c.self.inside.counts.items = search rules in
    let there : slice_get c.deref.result.now c.len.result ≡ Some c.in-Some.item.now = line_at _ _ _ _ c.in-Some.ensures.lookup.0 c.in-Some.ensures.lookup.1 in
    let get : slice_get c.self.inside.items.items (length c.self.inside.counts.items) ≡ Some c.in-Some.item.now = rw (← items_are, ← at_is) there in
    let taken = line_taken c.front_of-found.result.0 c.front_of-found.new.into in
    ap (receipts_of items) c.push_reserved-2.ensures.items
    ∙ receipts_more items counts c.front_of-found.result.1
    ∙ ap (λ (o : Option LineItem). receipts_of items counts ++ cut_receipt o c.front_of-found.result.1 ∷ []) get
    ∙ ap (λ (l : List LineItem). receipts_of items counts ++ l) (sym c.front_of-found.ensures.taken)
    ∙ ap (λ (l : List LineItem). l ++ taken) told
