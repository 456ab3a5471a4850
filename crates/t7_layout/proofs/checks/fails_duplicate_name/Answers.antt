use Rattle.std.proofs.Common.{rules}
use Rattle.t7_layout.specs.Faults.{fails_duplicate_name}
use Rattle.t7_layout.proofs.checks.fails_duplicate_name.Goals as goal

pub returns-then-has_name : goal.returns-then-has_name
unfolding fails_duplicate_name
returns-then-has_name c = search rules

pub returns-else-has_name : goal.returns-else-has_name
unfolding fails_duplicate_name
returns-else-has_name c = search rules
