use Rattle.t7_snapshot.specs.Remembered.{blank}
use Rattle.t7_snapshot.proofs.Held.{read_at}
use Rattle.t7_snapshot.proofs.Onward.{seen_held}
use Rattle.t7_snapshot.proofs.assembler.Assembler.progress.Goals as goal

pub returns : goal.returns
returns c = λ snaps is.
    let there = seen_held _ c.args.n snaps (rw (← c.self.view_is) at is) in
    let here = read_at c.self.inside.product.now.packets c.args.n c.self.inside.places.items c.index.result.now blank c.self.invariant.ring.some c.self.invariant.remembered.many (rw c.packets.ensures.value at c.index.ensures) in
    rw (← c.self.view_is, ← here) (c.self.invariant.remembered.each c.args.n there.0 there.1)
