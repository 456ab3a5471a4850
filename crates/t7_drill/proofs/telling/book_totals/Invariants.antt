use Rattle.std.proofs.Common.{◌≡◌}
use Rattle.t7_book.specs.Orders.{shown}
use Rattle.t7_book.specs.Walk.{walk_rest}
use Rattle.t7_drill.specs.Telling.{totals_of, with_orders}
use Rattle.t7_drill.proofs.telling.book_totals.Given as goal

abbrev pub invariant-loop-order : goal.invariant-loop-order
invariant-loop-order l = with_orders l.totals (shown (walk_rest l.order-iterator)) ≡ totals_of (shown (walk_rest l.fn.orders))
