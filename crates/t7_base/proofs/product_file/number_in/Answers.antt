use Rattle.std.proofs.Common.{rules}
use Rattle.t7_base.specs.ProductFile.{number_in, is_within}
use Rattle.t7_base.proofs.product_file.number_in.Goals as goal

pub returns-clause-value : goal.returns-clause-value
unfolding number_in is_within
returns-clause-value c = search rules
