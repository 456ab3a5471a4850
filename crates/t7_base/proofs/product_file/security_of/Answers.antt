use Rattle.std.proofs.Common.{rules}
use Rattle.t7_base.specs.ProductFile.{security_of, security_range}
use Rattle.t7_base.proofs.product_file.security_of.Goals as goal

pub returns-clause-value : goal.returns-clause-value
unfolding security_of security_range
returns-clause-value c = search rules
