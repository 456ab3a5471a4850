use Rattle.std.proofs.Common.{◌∙◌, refl}
use Rattle.t7_fields.specs.Messages.{Message}
use Rattle.t7_fields.proofs.MessageFacts.{said_raw}
use Rattle.t7_fields.proofs.message.Fields.is_written.Goals as goal

pub returns : goal.returns
returns c =
    let m : Message = record { layouts = c.self.inside.table.now; role = c.self.inside.role; bytes = c.self.inside.view.bytes } in
    let e = said_raw m c.args.name c.at-place.result c.at-place.ensures.place (c.at-place.ensures.kind ∙ c.requires.kind) in
    rw (← c.self.view_is, e) refl
