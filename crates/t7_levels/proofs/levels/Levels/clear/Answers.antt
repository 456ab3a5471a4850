use Rattle.std.proofs.Common.{◌∷◌, ℕ, length, ap, subst, arith}
use Rattle.std.specs.Prelude.{Option, IfSome}
use Rattle.std.proofs.lemmas.List.{length-append}
use Rattle.t7_levels.specs.Ladder.{Among}
use Rattle.t7_levels.proofs.levels.Levels.clear.Goals as goal

pub loop-slot-smaller : goal.loop-slot-smaller
loop-slot-smaller g c =
    let a : Among c.loop-slot.self.items c.in-Some.slot = subst (λ (o : Option ℕ). IfSome o (Among c.loop-slot.self.items)) c.in-Some.is c.last.ensures.some in
    omega (arith, ap length a.parts, ap length (c.remove.ensures.items a), length-append a.front ((c.in-Some.slot, a.value) ∷ a.back), length-append a.front a.back)
