use Rattle.t7_snapshot.proofs.Onward.{remembers_more}
use Rattle.t7_snapshot.proofs.assembler.Assembler.remember.Goals as goal

pub invariant_of-self : goal.invariant_of-self
invariant_of-self c = rw c.packets.ensures.value (record {
  ring = c.self.invariant.ring;
  remembered = remembers_more _ _ c.in-Some.first c.read_on-progress.result c.self.invariant.ring.some c.self.invariant.remembered (rw (← c.self.view_is) at c.read_on-progress.ensures);
})
