use Rattle.std.proofs.Common.{◌-◌, length, vec_capacity, refl, ap, arith}
use Rattle.t7_eobi.specs.Sizes.{snap_size}
use Rattle.t7_greedy.specs.Cuts.{cut}
use Rattle.t7_packets.specs.Packing.{room_in}
use Rattle.t7_snapshot.proofs.Fills.{packs_cut}
use Rattle.t7_snapshot.proofs.Noted.{caught_up, sender}
use Rattle.t7_snapshot.proofs.cycle.Cycle.next_packet.Goals as goal

pub returns-else-is_told : goal.returns-else-is_told
returns-else-is_told c = rw (← c.self.view_is) (record {
  snaps = c.fill-len.ensures.run;
  next = packs_cut c.greedy_cuts_are_one.ensures.next (record { layouts = c.self.inside.table.now; listing = c.self.inside.product.now }) c.args.number c.self.inside.script c.fill-len.new.script c.fill-len.result c.args.out.now c.fill-len.new.out c.fill-len.ensures;
  goes_on = refl;
  room = omega arith;
  within = c.fill-len.ensures.within;
  count = c.fill-len.ensures.count;
  bytes = c.fill-len.ensures.bytes;
  reads = c.fill-len.ensures.reads;
})

pub returns-then-is_told : goal.returns-then-is_told
returns-then-is_told c = rw (← c.self.view_is) (record {
  snaps = c.fill-len.ensures.run;
  next = packs_cut c.greedy_cuts_are_one.ensures.next (record { layouts = c.self.inside.table.now; listing = c.self.inside.product.now }) c.args.number c.self.inside.script c.fill-len.new.script c.fill-len.result c.args.out.now c.fill-len.new.out c.fill-len.ensures;
  goes_on = ap (λ l. sender (record { layouts = c.self.inside.table.now; listing = c.self.inside.product.now }) (cut (snap_size c.self.inside.table.now) (room_in c.self.inside.table.now c.self.inside.product.now.datagram) c.fill-len.new.script) c.self.inside.noted l (vec_capacity c.clear.new.self - length c.clear.new.self.items))
      (caught_up c.self.inside.product.now.securities c.self.inside.image c.carry_all.new.image c.self.inside.waiting.items c.deref.result.now c.clear.new.self.items c.self.invariant.securities c.deref.ensures.value c.clear.ensures.items c.carry_all.ensures);
  room = (let k = c.clear.ensures.capacity in let l = ap length c.clear.ensures.items in omega (arith, k, l));
  within = c.fill-len.ensures.within;
  count = c.fill-len.ensures.count;
  bytes = c.fill-len.ensures.bytes;
  reads = c.fill-len.ensures.reads;
})
