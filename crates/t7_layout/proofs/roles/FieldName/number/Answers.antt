use Rattle.std.proofs.Common.{rules}
use Rattle.t7_layout.specs.Roles.{name_number}
use Rattle.t7_layout.proofs.roles.FieldName.number.Goals as goal

pub returns-clause-value : goal.returns-clause-value
unfolding name_number
returns-clause-value c = search rules
