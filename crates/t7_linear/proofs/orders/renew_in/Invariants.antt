use Rattle.std.proofs.Common.{◌≡◌, ◌++◌, take, drop}
use Rattle.t7_book.specs.Orders.{renewed}
use Rattle.t7_linear.proofs.orders.renew_in.Given as goal

abbrev pub invariant-loop-y : goal.invariant-loop-y
invariant-loop-y l = l.y-items ≡ renewed l.x (take l.y-index l.initial.y-items) ++ drop l.y-index l.initial.y-items
