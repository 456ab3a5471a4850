use Rattle.std.proofs.Common.{rules}
use Rattle.t7_layout.specs.Faults.{fails_role_field}
use Rattle.t7_layout.proofs.checks.fails_role_field.Goals as goal

pub returns-in-None : goal.returns-in-None
unfolding fails_role_field
returns-in-None c = search rules

pub returns-in-Some : goal.returns-in-Some
unfolding fails_role_field
returns-in-Some c = search rules

pub returns-else-ends : goal.returns-else-ends
unfolding fails_role_field
returns-else-ends c = search rules
