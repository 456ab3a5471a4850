use Rattle.std.proofs.Common.{◌≡◌, ◌≤◌}
use Rattle.t7_book.specs.Orders.{roster_of}
use Rattle.t7_orders.proofs.tests.assert_trades.Given as goal

abbrev pub invariant-loop-order : goal.invariant-loop-order
invariant-loop-order g l = record {
  roster : l.book.roster ≡ roster_of l.product;
  few : l.book.applied ≤ l.order;
}
