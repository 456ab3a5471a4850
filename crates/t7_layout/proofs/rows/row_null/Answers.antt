use Rattle.std.proofs.Common.{rules}
use Rattle.t7_layout.specs.Rows.{row_null}
use Rattle.t7_layout.proofs.rows.row_null.Goals as goal

pub returns-then-has_kind : goal.returns-then-has_kind
unfolding row_null
returns-then-has_kind c = search rules

pub returns-then-has_kind-2 : goal.returns-then-has_kind-2
unfolding row_null
returns-then-has_kind-2 c = search rules

pub returns-else-has_kind-2 : goal.returns-else-has_kind-2
unfolding row_null
returns-else-has_kind-2 c = search rules
