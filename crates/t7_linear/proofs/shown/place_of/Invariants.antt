use Rattle.std.proofs.Common.{◌≡◌, ◌++◌, take, drop}
use Rattle.t7_book.specs.Orders.{placed, goes_before}
use Rattle.t7_linear.proofs.shown.place_of.Given as goal

abbrev pub invariant-loop-i : goal.invariant-loop-i
invariant-loop-i l = placed (goes_before l.securities) l.x l.orders ≡ take l.i l.orders ++ placed (goes_before l.securities) l.x (drop l.i l.orders)
