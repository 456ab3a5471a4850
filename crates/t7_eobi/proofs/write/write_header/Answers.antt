use Rattle.std.proofs.Common.{refl, rules, ◌≡◌, length}
use Rattle.t7_layout.specs.declared.roles.Role.TheVariants as role
use Rattle.t7_layout.specs.Roles.{family_of}
use Rattle.t7_fields.specs.Writing.{SaysSoFar}
use Rattle.t7_fields.proofs.WriteFacts.{alone_at}
use Rattle.t7_eobi.specs.Bytes.{header_fields}
use Rattle.t7_eobi.proofs.SayingFacts.{eobi_room, header_done, header_said, header_says}
use Rattle.t7_eobi.proofs.write.write_header.Goals as goal

pub begin-size-requires : goal.begin-size-requires
unfolding family_of
begin-size-requires c = record { room = eobi_room c.args.table.now role.PacketHeader (length c.args.out.now) c.templates-templates.ensures.table refl c.requires.room }

pub say-requires-clause-room : goal.say-requires-clause-room
unfolding family_of
say-requires-clause-room c =
    let room = eobi_room c.args.table.now role.PacketHeader (length c.args.out.now) c.templates-templates.ensures.table refl c.requires.room in
    search (rules, room)

pub say-requires-clause-said : goal.say-requires-clause-said
say-requires-clause-said c =
    let one = alone_at c.args.table.now role.PacketHeader (header_fields c.args.segment c.args.number) 0 _ (header_said c.args.table.now c.args.segment c.args.number c.templates-templates.ensures.table c.requires.segment_most c.requires.number) refl in
    search (rules, one)

pub say-requires-2-clause-room : goal.say-requires-2-clause-room
unfolding family_of
say-requires-2-clause-room c =
    let room = eobi_room c.args.table.now role.PacketHeader (length c.args.out.now) c.templates-templates.ensures.table refl c.requires.room in
    search (rules, room)

pub say-requires-2-clause-said : goal.say-requires-2-clause-said
say-requires-2-clause-said c =
    let one = alone_at c.args.table.now role.PacketHeader (header_fields c.args.segment c.args.number) 1 _ (header_said c.args.table.now c.args.segment c.args.number c.templates-templates.ensures.table c.requires.segment_most c.requires.number) refl in
    search (rules, one)

pub returns-clause-length : goal.returns-clause-length
returns-clause-length c =
    let all = c.say-2.ensures.said _ _ (c.say.ensures.said _ _ c.begin-size.ensures.said) in
    let so : SaysSoFar c.args.table.now role.PacketHeader (header_fields c.args.segment c.args.number) c.args.out.now c.say-2.new.out = search (rules, all) in
    let same : length c.say-2.new.out ≡ length c.args.out.now = search rules in
    (header_done c.args.table.now c.args.segment c.args.number c.begin-size.result c.args.out.now c.say-2.new.out c.templates-templates.ensures.table c.requires.segment_most c.requires.number c.begin-size.ensures.size c.requires.room same so).length_is

pub returns-clause-some : goal.returns-clause-some
returns-clause-some c =
    let all = c.say-2.ensures.said _ _ (c.say.ensures.said _ _ c.begin-size.ensures.said) in
    let so : SaysSoFar c.args.table.now role.PacketHeader (header_fields c.args.segment c.args.number) c.args.out.now c.say-2.new.out = search (rules, all) in
    let same : length c.say-2.new.out ≡ length c.args.out.now = search rules in
    (header_done c.args.table.now c.args.segment c.args.number c.begin-size.result c.args.out.now c.say-2.new.out c.templates-templates.ensures.table c.requires.segment_most c.requires.number c.begin-size.ensures.size c.requires.room same so).some

pub returns-clause-short : goal.returns-clause-short
returns-clause-short c =
    let all = c.say-2.ensures.said _ _ (c.say.ensures.said _ _ c.begin-size.ensures.said) in
    let so : SaysSoFar c.args.table.now role.PacketHeader (header_fields c.args.segment c.args.number) c.args.out.now c.say-2.new.out = search (rules, all) in
    let same : length c.say-2.new.out ≡ length c.args.out.now = search rules in
    (header_done c.args.table.now c.args.segment c.args.number c.begin-size.result c.args.out.now c.say-2.new.out c.templates-templates.ensures.table c.requires.segment_most c.requires.number c.begin-size.ensures.size c.requires.room same so).short

pub returns-clause-bytes : goal.returns-clause-bytes
returns-clause-bytes c =
    let all = c.say-2.ensures.said _ _ (c.say.ensures.said _ _ c.begin-size.ensures.said) in
    let so : SaysSoFar c.args.table.now role.PacketHeader (header_fields c.args.segment c.args.number) c.args.out.now c.say-2.new.out = search (rules, all) in
    let same : length c.say-2.new.out ≡ length c.args.out.now = search rules in
    (header_done c.args.table.now c.args.segment c.args.number c.begin-size.result c.args.out.now c.say-2.new.out c.templates-templates.ensures.table c.requires.segment_most c.requires.number c.begin-size.ensures.size c.requires.room same so).bytes

pub returns-clause-says : goal.returns-clause-says
returns-clause-says c = header_says c.args.table.now c.args.segment c.args.number c.templates-templates.ensures.table c.requires.segment_some c.requires.segment_most c.requires.number
