use Rattle.std.proofs.Common.{rules}
use Rattle.t7_base.specs.ProductFile.{is_security}
use Rattle.t7_base.proofs.product_file.is_security.Goals as goal

pub returns : goal.returns
unfolding is_security
returns c = search rules
