use Rattle.std.proofs.Common.{refl, rules, ◌≡◌, length}
use Rattle.t7_layout.specs.declared.roles.Role.TheVariants as role
use Rattle.t7_layout.specs.Roles.{family_of}
use Rattle.t7_fields.specs.Writing.{SaysSoFar}
use Rattle.t7_fields.proofs.WriteFacts.{alone_at}
use Rattle.t7_eobi.specs.Bytes.{beat_fields}
use Rattle.t7_eobi.proofs.SayingFacts.{eobi_room, beat_done, beat_said, beat_says}
use Rattle.t7_eobi.proofs.write.write_beat.Goals as goal

pub begin-size-requires : goal.begin-size-requires
unfolding family_of
begin-size-requires c = record { room = eobi_room c.args.table.now role.EobiHeartbeat (length c.args.out.now) c.templates-templates.ensures.table refl c.requires.room }

pub say-requires-clause-room : goal.say-requires-clause-room
unfolding family_of
say-requires-clause-room c =
    let room = eobi_room c.args.table.now role.EobiHeartbeat (length c.args.out.now) c.templates-templates.ensures.table refl c.requires.room in
    search (rules, room)

pub say-requires-clause-said : goal.say-requires-clause-said
say-requires-clause-said c =
    let one = alone_at c.args.table.now role.EobiHeartbeat (beat_fields c.args.last) 0 _ (beat_said c.args.table.now c.args.last c.templates-templates.ensures.table c.requires.last) refl in
    search (rules, one)

pub returns-clause-length : goal.returns-clause-length
returns-clause-length c =
    let all = c.say.ensures.said _ _ c.begin-size.ensures.said in
    let so : SaysSoFar c.args.table.now role.EobiHeartbeat (beat_fields c.args.last) c.args.out.now c.say.new.out = search (rules, all) in
    let same : length c.say.new.out ≡ length c.args.out.now = search rules in
    (beat_done c.args.table.now c.args.last c.begin-size.result c.args.out.now c.say.new.out c.templates-templates.ensures.table c.requires.last c.begin-size.ensures.size c.requires.room same so).length_is

pub returns-clause-some : goal.returns-clause-some
returns-clause-some c =
    let all = c.say.ensures.said _ _ c.begin-size.ensures.said in
    let so : SaysSoFar c.args.table.now role.EobiHeartbeat (beat_fields c.args.last) c.args.out.now c.say.new.out = search (rules, all) in
    let same : length c.say.new.out ≡ length c.args.out.now = search rules in
    (beat_done c.args.table.now c.args.last c.begin-size.result c.args.out.now c.say.new.out c.templates-templates.ensures.table c.requires.last c.begin-size.ensures.size c.requires.room same so).some

pub returns-clause-short : goal.returns-clause-short
returns-clause-short c =
    let all = c.say.ensures.said _ _ c.begin-size.ensures.said in
    let so : SaysSoFar c.args.table.now role.EobiHeartbeat (beat_fields c.args.last) c.args.out.now c.say.new.out = search (rules, all) in
    let same : length c.say.new.out ≡ length c.args.out.now = search rules in
    (beat_done c.args.table.now c.args.last c.begin-size.result c.args.out.now c.say.new.out c.templates-templates.ensures.table c.requires.last c.begin-size.ensures.size c.requires.room same so).short

pub returns-clause-bytes : goal.returns-clause-bytes
returns-clause-bytes c =
    let all = c.say.ensures.said _ _ c.begin-size.ensures.said in
    let so : SaysSoFar c.args.table.now role.EobiHeartbeat (beat_fields c.args.last) c.args.out.now c.say.new.out = search (rules, all) in
    let same : length c.say.new.out ≡ length c.args.out.now = search rules in
    (beat_done c.args.table.now c.args.last c.begin-size.result c.args.out.now c.say.new.out c.templates-templates.ensures.table c.requires.last c.begin-size.ensures.size c.requires.room same so).bytes

pub returns-clause-says : goal.returns-clause-says
returns-clause-says c = beat_says c.args.table.now c.args.last c.templates-templates.ensures.table c.requires.last
