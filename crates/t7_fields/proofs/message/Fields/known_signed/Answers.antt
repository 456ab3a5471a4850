use Rattle.std.proofs.Common.{◌∙◌, rules}
use Rattle.t7_fields.specs.Messages.{Message, number_as, number_at, said_number}
use Rattle.t7_fields.proofs.MessageFacts.{field_of_role, said_signed}
use Rattle.t7_fields.proofs.message.Fields.known_signed.Goals as goal

pub known_signed-requires-clause-known : goal.known_signed-requires-clause-known
known_signed-requires-clause-known c =
    let m : Message = record { layouts = c.self.inside.table.now; role = c.self.inside.role; bytes = c.self.inside.view.bytes } in
    let e = said_signed m c.args.name c.at.result c.at.ensures.place (c.at.ensures.kind ∙ c.requires.kind) in
    rw (← c.self.view_is, e) at c.requires.known

pub returns : goal.returns
unfolding said_number number_at number_as
returns c = search (rules, field_of_role)
