use Rattle.std.proofs.Common.{◌≡◌, ◌++◌}
use Rattle.std.specs.List.{filter}
use Rattle.t7_book.specs.Orders.{is_of}
use Rattle.t7_book.specs.Walk.{walk_rest}
use Rattle.t7_book.proofs.orders.Orders.orders_of.Given as goal

abbrev pub invariant-loop-y : goal.invariant-loop-y
invariant-loop-y l = l.found.items ++ filter (is_of l.session l.security) (walk_rest l.y-iterator) ≡ filter (is_of l.session l.security) l.self.list
