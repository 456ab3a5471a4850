use Rattle.std.proofs.Common.{ℕ, ◌<◌, ◌≤◌, false}
use Rattle.t7_snapshot.specs.Store.{seen}
use Rattle.t7_snapshot.specs.Reading.{Kept}
use Rattle.t7_snapshot.proofs.assembler.Assembler.find_begin.Given as goal

abbrev pub invariant-loop-opens : goal.invariant-loop-opens
invariant-loop-opens l = record { low : l.n ≤ l.i; between : (k : ℕ) → l.n < k → k ≤ l.i → Kept (seen l.self) k false }

abbrev pub decreases-loop-opens : goal.decreases-loop-opens
decreases-loop-opens l = l.n
