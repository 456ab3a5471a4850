use Rattle.std.proofs.Common.{rules}
use Rattle.t7_layout.specs.Rows.{row_kind}
use Rattle.t7_layout.proofs.rows.row_kind.Goals as goal

pub returns-then-has_kind : goal.returns-then-has_kind
unfolding row_kind
returns-then-has_kind c = search rules

pub returns-then-has_kind-2 : goal.returns-then-has_kind-2
unfolding row_kind
returns-then-has_kind-2 c = search rules

pub returns-else-has_kind-2 : goal.returns-else-has_kind-2
unfolding row_kind
returns-else-has_kind-2 c = search rules
