use Rattle.std.proofs.Common.{rules}
use Rattle.t7_base.specs.ProductFile.{is_session}
use Rattle.t7_base.proofs.product_file.is_session.Goals as goal

pub returns : goal.returns
unfolding is_session
returns c = search rules
