use Rattle.std.proofs.Common.{rules}
use Rattle.t7_base.specs.ProductFile.{is_within}
use Rattle.t7_base.proofs.product_file.is_within.Goals as goal

pub returns-then-is_decimal : goal.returns-then-is_decimal
unfolding is_within
returns-then-is_decimal c = search rules

pub returns-else-is_decimal : goal.returns-else-is_decimal
unfolding is_within
returns-else-is_decimal c = search rules
