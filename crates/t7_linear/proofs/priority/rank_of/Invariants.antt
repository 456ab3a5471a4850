use Rattle.std.proofs.Common.{◌≡◌, ◌+◌, drop}
use Rattle.t7_book.specs.Orders.{rank_of}
use Rattle.t7_linear.proofs.priority.rank_of.Given as goal

abbrev pub invariant-loop-i : goal.invariant-loop-i
invariant-loop-i l = rank_of l.securities l.security ≡ l.i + rank_of (drop l.i l.securities) l.security
