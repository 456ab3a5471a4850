use Rattle.std.proofs.Common.{arith, rules}
use Rattle.t7_fields.specs.Spelling.{raw_at}
use Rattle.t7_fields.proofs.ViewFacts.{in_room}
use Rattle.t7_fields.proofs.view.View.bytes_of.Goals as goal

pub part-requires : goal.part-requires
part-requires c =
    let laid = c.self.invariant in
    let room = in_room c.self.inside.template.now c.self.inside.bytes.now c.args.f laid.layout c.offset.ensures.place (rw (← c.self.view_is) at c.requires) laid.fits in
    omega (arith, room, c.offset.ensures.value, c.width.ensures.value)

pub returns-clause-bytes : goal.returns-clause-bytes
unfolding raw_at
returns-clause-bytes c = search rules
