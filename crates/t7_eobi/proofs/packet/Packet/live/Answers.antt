use Rattle.std.proofs.Common.{◌≡◌}
use Rattle.t7_base.specs.declared.ids.Channel.TheVariants as channels
use Rattle.t7_eobi.specs.Datagrams.{behind}
use Rattle.t7_eobi.specs.Faults.{Reading}
use Rattle.t7_eobi.proofs.WalkFacts.{left_behind}
use Rattle.t7_eobi.proofs.packet.Packet.live.Goals as goal

pub new-requires : goal.new-requires
new-requires c =
    let x : Reading = record { layouts = c.self.inside.table.now; segment = c.self.inside.segment; channel = c.self.inside.channel } in
    let k : c.self.inside.channel ≡ channels.Live = rw (← c.self.view_is) at c.requires in
    let r : c.rest.result.now ≡ behind c.self.inside.bytes.now = rw (← c.self.view_is) at c.rest.ensures in
    left_behind x channels.Live c.self.inside.bytes.now c.rest.result.now c.self.invariant k r
