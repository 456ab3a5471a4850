use Rattle.std.proofs.Common.{rules}
use Rattle.t7_layout.specs.Faults.{fails_columns}
use Rattle.t7_layout.proofs.checks.fails_columns.Goals as goal

pub returns : goal.returns
unfolding fails_columns
returns c = search rules
