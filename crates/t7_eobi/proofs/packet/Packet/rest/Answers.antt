use Rattle.t7_eobi.specs.Faults.{Reading}
use Rattle.t7_eobi.proofs.WalkFacts.{whole_here}
use Rattle.t7_eobi.proofs.packet.Packet.rest.Goals as goal

pub split_whole-requires : goal.split_whole-requires
split_whole-requires c =
    let x : Reading = record { layouts = c.self.inside.table.now; segment = c.self.inside.segment; channel = c.self.inside.channel } in
    whole_here x c.self.inside.bytes.now c.self.invariant
