use Rattle.std.proofs.Common.{rules}
use Rattle.t7_base.specs.ProductFile.{is_of}
use Rattle.t7_base.proofs.product_file.is_of.Goals as goal

pub returns : goal.returns
unfolding is_of
returns c = search rules
