use Rattle.std.proofs.Common.{rules}
use Rattle.t7_records.specs.Numbers.{is_decimal}
use Rattle.t7_records.proofs.numbers.is_plain.Goals as goal

pub returns-then-is_empty : goal.returns-then-is_empty
unfolding is_decimal
returns-then-is_empty c = search rules

pub returns-then-cell-eq1 : goal.returns-then-cell-eq1
unfolding is_decimal
returns-then-cell-eq1 c = search rules

pub returns-else-cell-eq1 : goal.returns-else-cell-eq1
unfolding is_decimal
returns-else-cell-eq1 c = search rules
