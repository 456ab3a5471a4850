use Rattle.std.proofs.Common.{◌≡◌, ℤ, take}
use Rattle.std.specs.Ordering.{int_eq}
use Rattle.std.specs.HashMap.{get}
use Rattle.t7_book.specs.Numbers.{rank_in}
use Rattle.t7_book.proofs.sides.ranks_of.Given as goal

abbrev pub invariant-loop-rank : goal.invariant-loop-rank
invariant-loop-rank l = (s : ℤ) → get int_eq l.ranks s ≡ rank_in (take l.rank l.securities) s
