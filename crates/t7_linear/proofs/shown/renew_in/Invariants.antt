use Rattle.std.proofs.Common.{◌≡◌, ◌++◌, take, drop, map}
use Rattle.t7_mbook.specs.Changes.{renewed_resting}
use Rattle.t7_linear.proofs.shown.renew_in.Given as goal

abbrev pub invariant-loop-y : goal.invariant-loop-y
invariant-loop-y l = l.y-items ≡ map (renewed_resting l.x) (take l.y-index l.initial.y-items) ++ drop l.y-index l.initial.y-items
