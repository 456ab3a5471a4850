use Rattle.std.proofs.Common.{rules}
use Rattle.t7_base.specs.ProductFile.{session_of, session_range}
use Rattle.t7_base.proofs.product_file.session_of.Goals as goal

pub returns-clause-value : goal.returns-clause-value
unfolding session_of session_range
returns-clause-value c = search rules
