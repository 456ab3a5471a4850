use Rattle.std.proofs.Common.{rules}
use Rattle.t7_eobi.specs.Faults.{has_room}
use Rattle.t7_eobi.proofs.messages.has_room.Goals as goal

pub returns : goal.returns
unfolding has_room
returns c = search rules
