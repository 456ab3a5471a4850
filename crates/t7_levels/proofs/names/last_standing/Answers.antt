use Rattle.std.proofs.Common.{◌≡◌, ◌∷◌, ◌++◌, [], Some, None, Option, ℕ, sym, ap, ◌∙◌}
use Rattle.t7_levels.specs.Named.{last_entry}
use Rattle.t7_levels.proofs.HoleLemmas.{last_some, last_hole}
use Rattle.t7_levels.proofs.names.last_standing.Goals as goal

pub returns-in-Some-slot : goal.returns-in-Some-slot
returns-in-Some-slot g c =
    let e = c.in-Some.field-0-0.now in
    let parts : c.loop-name.rest.now ≡ c.in-Some.front.now ++ (e.0, Some c.in-Some-slot.slot) ∷ [] = c.in-Some.ensures.cases.0 ∙ ap (λ (o : Option ℕ). c.in-Some.front.now ++ (e.0, o) ∷ []) c.in-Some-slot.is in
    sym (last_some c.loop-name.rest.now c.in-Some.front.now e.0 c.in-Some-slot.slot parts) ∙ c.loop-name.invariant

pub loop-name-preserved : goal.loop-name-preserved
loop-name-preserved g c =
    let e = c.in-Some.field-0-0.now in
    let parts : c.loop-name.rest.now ≡ c.in-Some.front.now ++ (e.0, None) ∷ [] = c.in-Some.ensures.cases.0 ∙ ap (λ (o : Option ℕ). c.in-Some.front.now ++ (e.0, o) ∷ []) c.in_default-slot.is in
    ap last_entry (last_hole c.loop-name.rest.now c.in-Some.front.now e.0 parts) ∙ c.loop-name.invariant
