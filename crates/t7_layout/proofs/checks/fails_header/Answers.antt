use Rattle.std.proofs.Common.{rules}
use Rattle.t7_layout.specs.Faults.{fails_header}
use Rattle.t7_layout.proofs.checks.fails_header.Goals as goal

pub returns-then-not-ends : goal.returns-then-not-ends
unfolding fails_header
returns-then-not-ends c = search rules

pub returns-then-in_family : goal.returns-then-in_family
unfolding fails_header
returns-then-in_family c = search rules

pub returns-else-in_family : goal.returns-else-in_family
unfolding fails_header
returns-else-in_family c = search rules
