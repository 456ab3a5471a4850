use Rattle.std.proofs.Common.{rules}
use Rattle.t7_layout.specs.Faults.{fails_width}
use Rattle.t7_layout.proofs.checks.fails_width.Goals as goal

pub returns-then-has_kind-2 : goal.returns-then-has_kind-2
unfolding fails_width
returns-then-has_kind-2 c = search rules

pub returns-else-has_kind-2 : goal.returns-else-has_kind-2
unfolding fails_width
returns-else-has_kind-2 c = search rules
