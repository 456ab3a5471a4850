use Rattle.std.proofs.Common.{rules}
use Rattle.t7_layout.specs.Faults.{is_width}
use Rattle.t7_layout.proofs.checks.is_width.Goals as goal

pub returns-then-width-eq4 : goal.returns-then-width-eq4
unfolding is_width
returns-then-width-eq4 c = search rules

pub returns-else-width-eq4 : goal.returns-else-width-eq4
unfolding is_width
returns-else-width-eq4 c = search rules
