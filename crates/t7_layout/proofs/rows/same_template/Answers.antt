use Rattle.std.proofs.Common.{rules}
use Rattle.t7_layout.specs.Rows.{same_template}
use Rattle.t7_layout.proofs.rows.same_template.Goals as goal

pub returns-then-same_cell-2 : goal.returns-then-same_cell-2
unfolding same_template
returns-then-same_cell-2 c = search rules

pub returns-else-same_cell-2 : goal.returns-else-same_cell-2
unfolding same_template
returns-else-same_cell-2 c = search rules
