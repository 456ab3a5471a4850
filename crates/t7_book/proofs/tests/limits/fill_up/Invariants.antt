use Rattle.std.proofs.Common.{◌≡◌, ◌≤◌, ◌*◌}
use Rattle.t7_book.specs.Orders.{roster_of}
use Rattle.t7_book.proofs.tests.limits.fill_up.Given as goal

abbrev pub invariant-loop-filling : goal.invariant-loop-filling
invariant-loop-filling g l = record {
  roster : l.book.roster ≡ roster_of l.product;
  few : l.book.applied ≤ 70_000 * l.filling-index;
}
