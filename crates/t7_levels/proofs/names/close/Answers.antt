use Rattle.std.proofs.Common.{◌≡◌, rules, ap, sym, subst, ◌∙◌, length}
use Rattle.std.specs.List.{filter}
use Rattle.std.proofs.lemmas.Fn.{filter_same}
use Rattle.t7_levels.specs.Named.{Rises}
use Rattle.t7_levels.specs.Holes.{standing}
use Rattle.t7_levels.proofs.HoleLemmas.{has_slot, closed_stand, closed_whole, closed_rises}
use Rattle.t7_levels.proofs.names.close.Goals as goal

pub returns-clause-standing : goal.returns-clause-standing
returns-clause-standing g c =
    let same : c.retain.new.self.items ≡ filter has_slot c.args.entries.now.items = filter_same _ _ _ (λ y answer f k. search rules) _ _ c.retain.ensures.filtered in
    ap standing same ∙ closed_stand c.args.entries.now.items

pub returns-clause-whole : goal.returns-clause-whole
returns-clause-whole g c =
    let same : c.retain.new.self.items ≡ filter has_slot c.args.entries.now.items = filter_same _ _ _ (λ y answer f k. search rules) _ _ c.retain.ensures.filtered in
    ap length same ∙ closed_whole c.args.entries.now.items ∙ ap (λ es. length (standing es)) (sym same)

pub returns-clause-rises : goal.returns-clause-rises
returns-clause-rises g c cmp rises =
    let same : c.retain.new.self.items ≡ filter has_slot c.args.entries.now.items = filter_same _ _ _ (λ y answer f k. search rules) _ _ c.retain.ensures.filtered in
    subst (Rises cmp) (sym same) (closed_rises cmp c.args.entries.now.items rises)
