use Rattle.std.proofs.Common.{◌≡◌, length}
use Rattle.t7_snapshot.proofs.progress.nothing_read.Given as goal

abbrev pub invariant-loop-made : goal.invariant-loop-made
invariant-loop-made l = length l.places.items ≡ l._made
