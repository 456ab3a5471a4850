use Rattle.std.proofs.Common.{refl}
use Rattle.t7_layout.specs.Roles.{family_of}
use Rattle.t7_eobi.specs.Datagrams.{packet_number}
use Rattle.t7_eobi.specs.Faults.{Reading}
use Rattle.t7_eobi.proofs.WalkFacts.{header_here, whole_here}
use Rattle.t7_eobi.proofs.packet.Packet.number.Goals as goal

pub split_whole-requires : goal.split_whole-requires
split_whole-requires c =
    let x : Reading = record { layouts = c.self.inside.table.now; segment = c.self.inside.segment; channel = c.self.inside.channel } in
    whole_here x c.self.inside.bytes.now c.self.invariant

pub read-requires-clause-room : goal.read-requires-clause-room
read-requires-clause-room c =
    let x : Reading = record { layouts = c.self.inside.table.now; segment = c.self.inside.segment; channel = c.self.inside.channel } in
    rw c.split_whole.ensures.message ((header_here x c.self.inside.bytes.now c.self.invariant).room)

pub read-requires-clause-family : goal.read-requires-clause-family
unfolding family_of
read-requires-clause-family c = refl

pub packet_number-requires-clause-sound : goal.packet_number-requires-clause-sound
packet_number-requires-clause-sound c =
    let x : Reading = record { layouts = c.self.inside.table.now; segment = c.self.inside.segment; channel = c.self.inside.channel } in
    rw (c.read.ensures, c.split_whole.ensures.message) ((header_here x c.self.inside.bytes.now c.self.invariant).sound)

pub returns-clause-value : goal.returns-clause-value
unfolding packet_number
returns-clause-value c =
    let e = rw (c.read.ensures, c.split_whole.ensures.message) at c.packet_number.ensures.value in
    rw (← c.self.view_is) e
