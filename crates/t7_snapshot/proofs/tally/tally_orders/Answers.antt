use Rattle.std.proofs.Common.{subst, sym, ap, ◌∙◌, arith}
use Rattle.std.specs.List.{IsDistinct}
use Rattle.std.specs.Ordering.{int_eq}
use Rattle.t7_snapshot.proofs.Held.{get_or_any}
use Rattle.t7_snapshot.proofs.TallyFacts.{counted_few, securities_set, tallied_none, tallied_one}
use Rattle.t7_snapshot.proofs.tally.tally_orders.Goals as goal
use Rattle.t7_snapshot.proofs.tally.tally_orders.Goals.{in-Some, in_default}

pub counted-requires : goal.counted-requires
counted-requires c =
    let found = rw c.deref.ensures.value at c.in-Some.ensures in
    let few = counted_few c.args.orders.now c.loop-place.place c.loop-place.tallies.items c.in-Some.at c.index.result.now c.loop-place-test.true found.1 c.index.ensures c.loop-place.invariant.tallied in
    let all = c.requires.few in
    let below = c.loop-place-test.true in
    omega (arith, few, all, below)

pub loop-place-preserved : goal.loop-place-preserved
loop-place-preserved c = elim c.match-place_of.branch [
  | in-Some w ↦ (
      let found = rw c.deref.ensures.value at w.in-Some.ensures in
      let distinct = subst (λ zs. IsDistinct int_eq zs) (sym c.loop-place.invariant.securities) c.requires.distinct in
      let one = get_or_any c.loop-place.tallies.items w.in-Some.at w.index.result.now found.0 found.1 in
      let same = ap (λ t. t.security) (w.index.ensures ∙ one ∙ sym found.2) ∙ found.3 in
      rw (w.tallies-is, w.counted.ensures) (record {
        securities = securities_set c.loop-place.tallies.items w.in-Some.at c.loop-place.place w.index.result.now found.1 w.index.ensures ∙ c.loop-place.invariant.securities;
        tallied = tallied_one c.args.orders.now c.loop-place.place c.index-orders-place.result c.loop-place.tallies.items w.in-Some.at w.index.result.now c.loop-place-test.true c.index-orders-place.is
            distinct found.1 w.index.ensures same c.loop-place.invariant.tallied;
        room = c.loop-place.invariant.room;
      })
      )
  | in_default w ↦ rw w.tallies-is (record {
    securities = c.loop-place.invariant.securities;
    tallied = tallied_none c.args.orders.now c.loop-place.place c.index-orders-place.result c.loop-place.tallies.items c.loop-place-test.true c.index-orders-place.is (rw c.deref.ensures.value at w.in_default.ensures) c.loop-place.invariant.tallied;
    room = c.loop-place.invariant.room;
  })
]
