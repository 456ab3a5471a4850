use Rattle.std.proofs.Common.{◌≡◌, ◌≤◌, ◌+◌}
use Rattle.t7_book.specs.Orders.{roster_of}
use Rattle.t7_bench.proofs.orders.apply_all.Given as goal

abbrev pub invariant-loop-row : goal.invariant-loop-row
invariant-loop-row l = record {
  roster : l.book.roster ≡ roster_of l.product;
  few : l.book.applied + l.left ≤ 900_000;
}
