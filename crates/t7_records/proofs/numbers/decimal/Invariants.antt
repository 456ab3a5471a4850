use Rattle.std.proofs.Common.{◌≡◌, ◌≤◌, drop}
use Rattle.t7_records.specs.Numbers.{value_from, value_of}
use Rattle.t7_records.proofs.numbers.decimal.Given as goal

abbrev pub invariant-loop-digit : goal.invariant-loop-digit
invariant-loop-digit l = record {
  small : l.number ≤ l.most;
  rest : value_from l.number (drop l.digit-index l.cell) ≡ value_of l.cell;
}
