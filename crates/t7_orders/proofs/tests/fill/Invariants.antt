use Rattle.std.proofs.Common.{◌≡◌, ◌≤◌, ◌+◌}
use Rattle.t7_book.specs.Orders.{roster_of}
use Rattle.t7_orders.proofs.tests.fill.Given as goal

abbrev pub invariant-loop-number : goal.invariant-loop-number
invariant-loop-number g l = record {
  roster : l.book.roster ≡ roster_of l.product;
  few : l.book.applied ≤ l.fn.book.applied + l.number;
}
