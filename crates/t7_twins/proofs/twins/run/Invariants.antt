use Rattle.std.proofs.Common.{◌≡◌, ◌≤◌}
use Rattle.t7_book.specs.Orders.{roster_of}
use Rattle.t7_twins.proofs.twins.run.Given as goal

abbrev pub invariant-loop-number : goal.invariant-loop-number
invariant-loop-number l = record {
  roster : l.book.roster ≡ roster_of l.product;
  few : l.book.applied ≤ l.number;
  linear_roster : l.linear.roster ≡ roster_of l.product;
  linear_few : l.linear.applied ≤ l.number;
}
