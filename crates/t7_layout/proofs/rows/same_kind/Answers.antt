use Rattle.std.proofs.Common.{rules}
use Rattle.t7_layout.specs.Rows.{same_kind}
use Rattle.t7_layout.proofs.rows.same_kind.Goals as goal

pub returns : goal.returns
unfolding same_kind
returns c = search rules
