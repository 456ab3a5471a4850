use Rattle.t7_packets.specs.Packing.{room_in}
use Rattle.t7_eobi.specs.Sizes.{snap_size}
use Rattle.t7_snapshot.proofs.Fills.{peeks, peeks_none}
use Rattle.t7_snapshot.proofs.cycle.Cycle.under_way.Goals as goal

pub returns-clause-under_way : goal.returns-clause-under_way
returns-clause-under_way c = rw (← c.self.view_is) (peeks (snap_size c.self.inside.table.now) (room_in c.self.inside.table.now c.self.inside.product.now.datagram) c.self.inside.script c.peek.result c.is_some.result c.peek.ensures.next c.is_some.ensures)

pub returns-clause-idle : goal.returns-clause-idle
returns-clause-idle c = rw (← c.self.view_is) (peeks_none (snap_size c.self.inside.table.now) (room_in c.self.inside.table.now c.self.inside.product.now.datagram) c.self.inside.script c.peek.result c.is_some.result c.peek.ensures.next c.is_some.ensures)
