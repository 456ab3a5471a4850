use Rattle.std.proofs.Common.{arith}
use Rattle.t7_eobi.specs.Bytes.{IsSecurity}
use Rattle.t7_snapshot.specs.Tallies.{IsTallied}
use Rattle.t7_snapshot.proofs.Scripts.{tally_of}
use Rattle.t7_snapshot.proofs.TallyFacts.{tallied_few}
use Rattle.t7_snapshot.proofs.script.Script.peek.Goals as goal

pub returns-clause-known : goal.returns-clause-known
returns-clause-known c =
    let there = rw c.deref-2.ensures.value at c.in_ok-tally.ensures in
    let telling = c.self.invariant.0 in
    let tally = tally_of (IsTallied c.self.inside.orders.items) c.self.inside.tallies.items c.self.inside.next c.in_ok-tally.tally there.0 there.1 telling.tallied in
    let few = tallied_few c.self.inside.orders.items c.in_ok-tally.tally tally in
    let all = telling.few in
    (tally_of (λ t. IsSecurity t.security) c.self.inside.tallies.items c.self.inside.next c.in_ok-tally.tally there.0 there.1 telling.ranged, omega (arith, few, all))
