use Rattle.std.proofs.Common.{rules}
use Rattle.t7_eobi.specs.Faults.{is_header}
use Rattle.t7_eobi.proofs.roles.is_header.Goals as goal

pub returns-in-Some-PacketHeader : goal.returns-in-Some-PacketHeader
unfolding is_header
returns-in-Some-PacketHeader c = search rules

pub returns-in_default : goal.returns-in_default
unfolding is_header
returns-in_default c = search rules
