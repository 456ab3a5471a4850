use Rattle.std.proofs.Common.{rules}
use Rattle.t7_layout.specs.Faults.{fails_length}
use Rattle.t7_layout.proofs.checks.fails_length.Goals as goal

pub returns-then-end-gt1024 : goal.returns-then-end-gt1024
unfolding fails_length
returns-then-end-gt1024 c = search rules

pub returns-then-is_some : goal.returns-then-is_some
unfolding fails_length
returns-then-is_some c = search rules

pub returns-else-is_some : goal.returns-else-is_some
unfolding fails_length
returns-else-is_some c = search rules

pub returns-else-ends : goal.returns-else-ends
unfolding fails_length
returns-else-ends c = search rules
