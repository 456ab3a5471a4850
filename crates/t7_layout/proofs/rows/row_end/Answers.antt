use Rattle.std.proofs.Common.{rules}
use Rattle.t7_layout.specs.Rows.{row_end}
use Rattle.t7_layout.proofs.rows.row_end.Goals as goal

pub returns-clause-value : goal.returns-clause-value
unfolding row_end
returns-clause-value c = search rules
