use Rattle.std.proofs.Common.{rules}
use Rattle.t7_layout.specs.Rows.{row_id}
use Rattle.t7_layout.proofs.rows.row_id.Goals as goal

pub returns-clause-value : goal.returns-clause-value
unfolding row_id
returns-clause-value c = search rules
