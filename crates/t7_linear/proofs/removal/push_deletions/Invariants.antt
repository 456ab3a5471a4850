use Rattle.std.proofs.Common.{◌≡◌, ◌++◌, [], drop}
use Rattle.t7_book.specs.Steps.{messages, deletions}
use Rattle.t7_linear.proofs.removal.push_deletions.Given as goal

abbrev pub invariant-loop-y : goal.invariant-loop-y
invariant-loop-y l = l.out.items ++ messages (deletions (drop l.y-index l.gone) []) ≡ l.fn.out.items ++ messages (deletions l.gone [])
