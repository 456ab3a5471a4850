use Rattle.std.proofs.Common.{◌≡◌, ◌++◌, take, drop}
use Rattle.t7_book.specs.Orders.{with_order}
use Rattle.t7_linear.proofs.orders.place_of.Given as goal

abbrev pub invariant-loop-i : goal.invariant-loop-i
invariant-loop-i l = with_order l.securities l.x l.orders ≡ take l.i l.orders ++ with_order l.securities l.x (drop l.i l.orders)
