use Rattle.std.proofs.Common.{rules}
use Rattle.t7_layout.specs.Rows.{is_field}
use Rattle.t7_layout.proofs.rows.is_field.Goals as goal

pub returns-then-same_kind : goal.returns-then-same_kind
unfolding is_field
returns-then-same_kind c = search rules

pub returns-else-same_kind : goal.returns-else-same_kind
unfolding is_field
returns-else-same_kind c = search rules
