use Rattle.std.proofs.Common.{rules}
use Rattle.t7_layout.specs.Roles.{family_of}
use Rattle.t7_layout.proofs.roles.Role.family.Goals as goal

pub returns-in-PacketHeader : goal.returns-in-PacketHeader
unfolding family_of
returns-in-PacketHeader c = search rules

pub returns-in_default : goal.returns-in_default
unfolding family_of
returns-in_default c = search rules
