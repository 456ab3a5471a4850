use Rattle.std.proofs.Common.{◌≡◌, length}
use Rattle.t7_levels.proofs.levels.Levels.clear.Given as goal

abbrev pub invariant-loop-slot : goal.invariant-loop-slot
invariant-loop-slot g l = l.self.sides ≡ l.initial.self.sides

abbrev pub decreases-loop-slot : goal.decreases-loop-slot
decreases-loop-slot g l = length l.self.items
