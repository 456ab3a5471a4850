use Rattle.std.proofs.Common.{rules}
use Rattle.t7_fields.specs.Messages.{said_number, number_at, number_as}
use Rattle.t7_fields.proofs.MessageFacts.{field_of_role}
use Rattle.t7_fields.proofs.message.Fields.unsigned.Goals as goal

pub returns-clause-said : goal.returns-clause-said
unfolding said_number number_at number_as
returns-clause-said c = search (rules, field_of_role)
