use Rattle.t7_eobi.proofs.WalkFacts.{room_role, sound_role}
use Rattle.t7_eobi.proofs.walks.sound.Goals as goal

pub read-requires-clause-room : goal.read-requires-clause-room
read-requires-clause-room c = room_role c.args.table.now c.args.channel c.args.role c.args.message.now c.requires.fault

pub returns-clause-sound : goal.returns-clause-sound
returns-clause-sound c = rw c.read.ensures (sound_role c.args.table.now c.args.channel c.args.role c.args.message.now c.requires.fault c.requires.inside)
