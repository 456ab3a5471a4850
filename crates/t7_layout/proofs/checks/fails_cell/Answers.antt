use Rattle.std.proofs.Common.{rules}
use Rattle.t7_layout.specs.Faults.{fails_cell}
use Rattle.t7_layout.proofs.checks.fails_cell.Goals as goal

pub returns : goal.returns
unfolding fails_cell
returns c = search rules
