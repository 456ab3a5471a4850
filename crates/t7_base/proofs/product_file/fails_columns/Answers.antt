use Rattle.std.proofs.Common.{rules}
use Rattle.t7_base.specs.ProductFile.{fails_columns}
use Rattle.t7_base.proofs.product_file.fails_columns.Goals as goal

pub returns-then-at-lt4 : goal.returns-then-at-lt4
unfolding fails_columns
returns-then-at-lt4 c = search rules

pub returns-then-is_security : goal.returns-then-is_security
unfolding fails_columns
returns-then-is_security c = search rules

pub returns : goal.returns
unfolding fails_columns
returns c = search rules
