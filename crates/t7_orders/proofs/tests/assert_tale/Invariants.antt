use Rattle.std.proofs.Common.{◌≡◌, ◌≤◌}
use Rattle.t7_book.specs.Orders.{roster_of}
use Rattle.t7_orders.proofs.tests.assert_tale.Given as goal

abbrev pub invariant-loop-told : goal.invariant-loop-told
invariant-loop-told g l = record {
  roster : l.book.roster ≡ roster_of l.product;
  few : l.book.applied ≤ l.told-index;
}
