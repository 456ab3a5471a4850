use Rattle.std.proofs.Common.{rules}
use Rattle.t7_layout.specs.Rows.{row_family}
use Rattle.t7_layout.proofs.rows.row_family.Goals as goal

pub returns-then-in_family : goal.returns-then-in_family
unfolding row_family
returns-then-in_family c = search rules

pub returns-else-in_family : goal.returns-else-in_family
unfolding row_family
returns-else-in_family c = search rules
