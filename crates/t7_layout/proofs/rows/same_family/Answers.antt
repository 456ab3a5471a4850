use Rattle.std.proofs.Common.{rules}
use Rattle.t7_layout.specs.Rows.{same_family}
use Rattle.t7_layout.proofs.rows.same_family.Goals as goal

pub returns : goal.returns
unfolding same_family
returns c = search rules
