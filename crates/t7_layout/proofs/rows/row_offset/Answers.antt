use Rattle.std.proofs.Common.{rules}
use Rattle.t7_layout.specs.Rows.{row_offset}
use Rattle.t7_layout.proofs.rows.row_offset.Goals as goal

pub returns-clause-value : goal.returns-clause-value
unfolding row_offset
returns-clause-value c = search rules
