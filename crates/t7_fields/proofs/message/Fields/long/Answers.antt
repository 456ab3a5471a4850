use Rattle.std.proofs.Common.{◌∙◌, refl}
use Rattle.t7_fields.specs.Messages.{Message}
use Rattle.t7_fields.proofs.MessageFacts.{said_raw}
use Rattle.t7_fields.proofs.message.Fields.long.Goals as goal

pub returns : goal.returns
returns c =
    let m : Message = record { layouts = c.self.inside.table.now; role = c.self.inside.role; bytes = c.self.inside.view.bytes } in
    let e = said_raw m c.args.name c.at.result c.at.ensures.place (c.at.ensures.kind ∙ c.requires.kind) in
    let w = rw (← c.self.view_is) at c.requires.width in
    rw (← c.self.view_is, e, c.read_u128.ensures, c.raw.ensures.bytes, c.at.ensures.width, w) refl
