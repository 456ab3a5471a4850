use Rattle.std.proofs.Common.{rules}
use Rattle.t7_layout.specs.Rows.{in_family}
use Rattle.t7_layout.proofs.rows.in_family.Goals as goal

pub returns : goal.returns
unfolding in_family
returns c = search rules
