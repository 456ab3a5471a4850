use Rattle.std.proofs.Common.{rules}
use Rattle.t7_fields.specs.Messages.{said_number, number_at, number_as}
use Rattle.t7_fields.proofs.MessageFacts.{field_of_role}
use Rattle.t7_fields.proofs.message.Fields.signed.Goals as goal

pub returns : goal.returns
unfolding said_number number_at number_as
returns c = search (rules, field_of_role)
