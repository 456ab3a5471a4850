use Rattle.std.proofs.Common.{rules}
use Rattle.t7_layout.specs.Rows.{row_width}
use Rattle.t7_layout.proofs.rows.row_width.Goals as goal

pub returns-clause-value : goal.returns-clause-value
unfolding row_width
returns-clause-value c = search rules
