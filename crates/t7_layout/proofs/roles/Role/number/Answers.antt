use Rattle.std.proofs.Common.{rules}
use Rattle.t7_layout.specs.Roles.{role_number}
use Rattle.t7_layout.proofs.roles.Role.number.Goals as goal

pub returns-clause-value : goal.returns-clause-value
unfolding role_number
returns-clause-value c = search rules
