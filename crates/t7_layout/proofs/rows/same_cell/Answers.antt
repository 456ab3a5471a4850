use Rattle.std.proofs.Common.{rules}
use Rattle.t7_layout.specs.Rows.{same_cell}
use Rattle.t7_layout.proofs.rows.same_cell.Goals as goal

pub returns : goal.returns
unfolding same_cell
returns c = search rules
