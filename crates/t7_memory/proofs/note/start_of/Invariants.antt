use Rattle.std.proofs.Common.{◌≡◌, ◌≤◌, take, sum}
use Rattle.t7_memory.proofs.note.start_of.Given as goal

-- the lengths before this one were added
abbrev pub invariant-loop-before : goal.invariant-loop-before
invariant-loop-before l = (l.start ≡ sum (take l.before l.lengths)) × (l.before ≤ l.at)
