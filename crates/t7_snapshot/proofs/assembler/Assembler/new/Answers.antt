use Rattle.t7_snapshot.specs.Store.{held}
use Rattle.std.proofs.Common.{◌∙◌}
use Rattle.t7_snapshot.proofs.Held.{free_none, free_ring}
use Rattle.t7_snapshot.proofs.Onward.{remembers_none}
use Rattle.t7_snapshot.proofs.assembler.Assembler.new.Goals as goal

pub returns-clause-empty : goal.returns-clause-empty
unfolding held
returns-clause-empty c = λ n. free_none c.args.product.now.packets c.in_ok-free_slots.field-0.items n (rw c.packets-packets.ensures.value at c.in_ok-free_slots.ensures)

pub invariant_of-result : goal.invariant_of-result
unfolding held
invariant_of-result c =
    let free = rw c.packets-packets.ensures.value at c.in_ok-free_slots.ensures in
    let ring = free_ring (record { layouts = c.args.table.now; listing = c.args.product.now }) c.in_ok-free_slots.field-0.items c.packets-packets.ensures.listing.packets.0 free in
    record {
      ring = ring;
      remembered = remembers_none _ _ (c.in_ok-nothing_read.ensures ∙ c.packets-packets.ensures.value) (λ n. free_none c.args.product.now.packets c.in_ok-free_slots.field-0.items n free);
    }
