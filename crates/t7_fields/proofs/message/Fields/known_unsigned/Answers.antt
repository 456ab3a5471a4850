use Rattle.std.proofs.Common.{◌∙◌, refl}
use Rattle.t7_fields.specs.Messages.{Message}
use Rattle.t7_fields.proofs.MessageFacts.{number_known, said_unsigned}
use Rattle.t7_fields.proofs.message.Fields.known_unsigned.Goals as goal

pub known_unsigned-requires-clause-known : goal.known_unsigned-requires-clause-known
known_unsigned-requires-clause-known c =
    let m : Message = record { layouts = c.self.inside.table.now; role = c.self.inside.role; bytes = c.self.inside.view.bytes } in
    let e = said_unsigned m c.args.name c.at.result c.at.ensures.place (c.at.ensures.kind ∙ c.requires.kind) in
    number_known _ (rw (← c.self.view_is, e) at c.requires.known)

pub returns-clause-said : goal.returns-clause-said
returns-clause-said c =
    let m : Message = record { layouts = c.self.inside.table.now; role = c.self.inside.role; bytes = c.self.inside.view.bytes } in
    let e = said_unsigned m c.args.name c.at.result c.at.ensures.place (c.at.ensures.kind ∙ c.requires.kind) in
    rw (← c.self.view_is, e, ← c.known_unsigned.ensures.reads) refl
