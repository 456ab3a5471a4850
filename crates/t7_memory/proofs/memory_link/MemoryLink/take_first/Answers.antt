use Rattle.std.proofs.Common.{◌≡◌, List, [], ◌∷◌, ◌++◌, Option, Some, None, ℕ, map, slice_get, sym, ◌∙◌, ap}
use Rattle.t7_memory.specs.declared.cut.Cut.{Cut}
use Rattle.t7_net.specs.declared.link.LinkItem.{LinkItem}
use Rattle.t7_net.specs.declared.link.LinkItem.TheVariants.{Quiet}
use Rattle.t7_net.specs.Links.{link_taken}
use Rattle.t7_memory.specs.LinkStates.{LinkState, cut_of, piece_of}
use Rattle.t7_memory.proofs.Cuts.{cuts_more, found_cut, get_at, left_there, none_at}
use Rattle.t7_memory.proofs.memory_link.MemoryLink.take_first.Goals as goal

pub returns-in_default-clause-taken : goal.returns-in_default-clause-taken
returns-in_default-clause-taken c =
    let items = c.self.inside.items.items in
    let cut : Cut = record { at = c.first_left-at.result.0; start = c.first_left-at.result.1; count = 0 } in
    let told : map (cut_of c.self.inside.items.items) c.self.inside.cuts.items ≡ c.args.self.now.events = ap (λ (s : LinkState). s.events) c.self.view_is in
    let items_are : c.deref-2.result.now ≡ c.self.inside.items.items = c.deref-2.ensures.value in
    let there : slice_get c.deref-2.result.now c.first_left-at.result.0 ≡ None = none_at _ _ c.in_default.ensures.lookup.0 in
    let none : slice_get c.self.inside.items.items c.first_left-at.result.0 ≡ None = rw (← items_are) there in
    ap (map (cut_of items)) c.push_reserved.ensures.items
    ∙ cuts_more items c.self.inside.cuts.items cut (Quiet ∷ []) (sym (ap (λ (o : Option LinkItem). piece_of o c.first_left-at.result.1 0 ∷ []) none))
    ∙ ap (λ (l : List LinkItem). l ++ Quiet ∷ []) told

pub front_of-event-requires-clause-left : goal.front_of-event-requires-clause-left
front_of-event-requires-clause-left c =
    let items_are : c.deref-2.result.now ≡ c.deref.result.now = c.deref-2.ensures.value ∙ sym c.deref.ensures.value in
    let there : slice_get c.deref-2.result.now c.first_left-at.result.0 ≡ Some c.in-Some.item.now = get_at _ _ _ _ c.in-Some.ensures.lookup.0 c.in-Some.ensures.lookup.1 in
    let get : slice_get c.deref.result.now c.first_left-at.result.0 ≡ Some c.in-Some.item.now = rw (← items_are) there in
    left_there c.deref.result.now c.first_left-at.result.0 c.first_left-at.result.1 c.in-Some.item.now get c.first_left-at.ensures.left

pub returns-then-count-eq0-clause-taken : goal.returns-then-count-eq0-clause-taken
returns-then-count-eq0-clause-taken c =
    let items = c.self.inside.items.items in
    let at = c.first_left-at.result.0 in
    let start = c.first_left-at.result.1 in
    let cut : Cut = record { at = c.first_left-at.result.0; start = c.first_left-at.result.1; count = c.count_of-count.result } in
    let told : map (cut_of c.self.inside.items.items) c.self.inside.cuts.items ≡ c.args.self.now.events = ap (λ (s : LinkState). s.events) c.self.view_is in
    let items_are : c.deref-2.result.now ≡ c.self.inside.items.items = c.deref-2.ensures.value in
    let there : slice_get c.deref-2.result.now c.first_left-at.result.0 ≡ Some c.in-Some.item.now = get_at _ _ _ _ c.in-Some.ensures.lookup.0 c.in-Some.ensures.lookup.1 in
    let get : slice_get c.self.inside.items.items c.first_left-at.result.0 ≡ Some c.in-Some.item.now = rw (← items_are) there in
    let taken = link_taken c.front_of-event.result c.front_of-event.new.into in
    ap (map (cut_of items)) c.push_reserved-2.ensures.items
    ∙ cuts_more items c.self.inside.cuts.items cut taken
    (found_cut items at start c.in-Some.item.now c.front_of-event.result c.front_of-event.new.into get c.front_of-event.ensures.found
    ∙ ap (λ (n : ℕ). let k : Cut = record { at = c.first_left-at.result.0; start = c.first_left-at.result.1; count = n } in cut_of items k ∷ []) (sym c.count_of-count.ensures))
    ∙ ap (λ (l : List LinkItem). l ++ taken) told

pub returns-else-count-eq0-clause-taken : goal.returns-else-count-eq0-clause-taken
returns-else-count-eq0-clause-taken c =
    let items = c.self.inside.items.items in
    let at = c.first_left-at.result.0 in
    let start = c.first_left-at.result.1 in
    let cut : Cut = record { at = c.first_left-at.result.0; start = c.first_left-at.result.1; count = c.count_of-count.result } in
    let told : map (cut_of c.self.inside.items.items) c.self.inside.cuts.items ≡ c.args.self.now.events = ap (λ (s : LinkState). s.events) c.self.view_is in
    let items_are : c.deref-2.result.now ≡ c.self.inside.items.items = c.deref-2.ensures.value in
    let there : slice_get c.deref-2.result.now c.first_left-at.result.0 ≡ Some c.in-Some.item.now = get_at _ _ _ _ c.in-Some.ensures.lookup.0 c.in-Some.ensures.lookup.1 in
    let get : slice_get c.self.inside.items.items c.first_left-at.result.0 ≡ Some c.in-Some.item.now = rw (← items_are) there in
    let taken = link_taken c.front_of-event.result c.front_of-event.new.into in
    ap (map (cut_of items)) c.push_reserved-2.ensures.items
    ∙ cuts_more items c.self.inside.cuts.items cut taken
    (found_cut items at start c.in-Some.item.now c.front_of-event.result c.front_of-event.new.into get c.front_of-event.ensures.found
    ∙ ap (λ (n : ℕ). let k : Cut = record { at = c.first_left-at.result.0; start = c.first_left-at.result.1; count = n } in cut_of items k ∷ []) (sym c.count_of-count.ensures))
    ∙ ap (λ (l : List LinkItem). l ++ taken) told
