use Rattle.std.proofs.Common.{◌≡◌, ◌≤◌, ◌+◌}
use Rattle.t7_book.specs.Orders.{roster_of}
use Rattle.t7_book.proofs.tests.examples.play_on.Given as goal

abbrev pub invariant-loop-row : goal.invariant-loop-row
invariant-loop-row g l = record {
  roster : l.book.roster ≡ roster_of l.product;
  few : l.book.applied ≤ l.fn.book.applied + l.row-index;
}
