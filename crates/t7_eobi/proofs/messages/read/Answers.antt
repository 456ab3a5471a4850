use Rattle.t7_eobi.proofs.FaultFacts.{room_fits}
use Rattle.t7_eobi.proofs.messages.read.Goals as goal

pub known-requires : goal.known-requires
known-requires c = room_fits c.args.table.now c.args.role c.args.message.now c.requires.room c.requires.said c.requires.family
