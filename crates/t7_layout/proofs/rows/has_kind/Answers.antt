use Rattle.std.proofs.Common.{rules}
use Rattle.t7_layout.specs.Rows.{has_kind}
use Rattle.t7_layout.proofs.rows.has_kind.Goals as goal

pub returns : goal.returns
unfolding has_kind
returns c = search rules
