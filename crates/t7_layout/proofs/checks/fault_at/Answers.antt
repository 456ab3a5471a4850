use Rattle.std.proofs.Common.{rules}
use Rattle.t7_layout.specs.Faults.{fault_at}
use Rattle.t7_layout.proofs.checks.fault_at.Goals as goal

pub returns-then-is_heading : goal.returns-then-is_heading
unfolding fault_at
returns-then-is_heading c = search rules

pub returns-else-is_heading : goal.returns-else-is_heading
unfolding fault_at
returns-else-is_heading c = search rules

pub returns-else-at-eq0 : goal.returns-else-at-eq0
unfolding fault_at
returns-else-at-eq0 c = search rules
