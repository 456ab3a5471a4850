use Rattle.std.proofs.Common.{rules}
use Rattle.t7_base.specs.ProductFile.{tick_of, tick_range}
use Rattle.t7_base.proofs.product_file.tick_of.Goals as goal

pub returns-clause-value : goal.returns-clause-value
unfolding tick_of tick_range
returns-clause-value c = search rules
