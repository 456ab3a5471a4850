use Rattle.std.proofs.Common.{◌≡◌, ◌∷◌, ℕ, List, [], get_or, sym, ap, subst, ◌∙◌}
use Rattle.t7_levels.specs.declared.key.LevelKey.{LevelKey}
use Rattle.t7_levels.specs.Chain.{Each}
use Rattle.t7_levels.specs.Ladder.{Shelf, Among, IsRow, book}
use Rattle.t7_levels.proofs.EachLemmas.{Each-back}
use Rattle.t7_levels.proofs.LastLemmas.{last_cut, no_last, slot_last, head_last, level_end, last_among, last_row}
use Rattle.t7_levels.proofs.levels.Levels.last.Goals as goal

pub prev-requires : goal.prev-requires
prev-requires g c =
    let O = c.self.inside.orders in
    let E = c.self.inside.index in
    let fo = c.self.inside.free_order in
    let e : LevelKey × ℕ = (c.in-Some.field-0-0, c.in-Some.level) in
    let cut = last_cut E e (sym c.in-Some.is ∙ c.last.ensures) in
    level_end O c.in-Some.level (last_row g.T.Ranked.number_of g.T.Ranked.rank_of g.T.Stamped.stamped O fo cut.0 e c.self.invariant.order_lists (subst (Each (IsRow g.T.Ranked.number_of g.T.Ranked.rank_of g.T.Stamped.stamped fo O)) cut.1 c.self.invariant.rows))

pub returns-in-None-clause-none : goal.returns-in-None-clause-none
returns-in-None-clause-none g c none =
    let O = c.self.inside.orders in
    let E = c.self.inside.index in
    ap (λ (s : Shelf g.row.T.Denot). s.items) (sym c.self.view_is) ∙ ap (book O) (no_last E (sym c.in-None.is ∙ c.last.ensures))

pub returns-in-Slot-clause-some : goal.returns-in-Slot-clause-some
returns-in-Slot-clause-some g c =
    let O = c.self.inside.orders in
    let E = c.self.inside.index in
    let fo = c.self.inside.free_order in
    let e : LevelKey × ℕ = (c.in-Some.field-0-0, c.in-Some.level) in
    let cut = last_cut E e (sym c.in-Some.is ∙ c.last.ensures) in
    let end = slot_last c.in-Some.level c.in-Slot.slot (get_or O c.in-Some.level []) (sym c.in-Slot.is ∙ c.prev.ensures (level_end O c.in-Some.level (last_row g.T.Ranked.number_of g.T.Ranked.rank_of g.T.Stamped.stamped O fo cut.0 e c.self.invariant.order_lists (subst (Each (IsRow g.T.Ranked.number_of g.T.Ranked.rank_of g.T.Stamped.stamped fo O)) cut.1 c.self.invariant.rows)))) in
    subst (λ (items : List (ℕ × g.row.T.Denot)). Among items c.in-Slot.slot) (sym (ap (book O) cut.1) ∙ ap (λ (s : Shelf g.row.T.Denot). s.items) c.self.view_is) (last_among O cut.0 e c.in-Slot.slot end.0 end.1 end.2)

pub returns-in-Head-clause-none : goal.returns-in-Head-clause-none
returns-in-Head-clause-none g c none =
    let O = c.self.inside.orders in
    let E = c.self.inside.index in
    let e : LevelKey × ℕ = (c.in-Some.field-0-0, c.in-Some.level) in
    let cut = last_cut E e (sym c.in-Some.is ∙ c.last.ensures) in
    let full = subst (Each (λ (e : LevelKey × ℕ). get_or O e.1 [] ≡ [] → ⊥)) cut.1 c.self.invariant.full in
    absurd ((Each-back (λ (e : LevelKey × ℕ). get_or O e.1 [] ≡ [] → ⊥) cut.0 (e ∷ []) full).0 (head_last c.in-Some.level c.in-Head.field-0 (get_or O c.in-Some.level []) (sym c.in-Head.is ∙ c.prev.ensures (level_end O c.in-Some.level (last_row g.T.Ranked.number_of g.T.Ranked.rank_of g.T.Stamped.stamped O c.self.inside.free_order cut.0 e c.self.invariant.order_lists (subst (Each (IsRow g.T.Ranked.number_of g.T.Ranked.rank_of g.T.Stamped.stamped c.self.inside.free_order O)) cut.1 c.self.invariant.rows))))))
