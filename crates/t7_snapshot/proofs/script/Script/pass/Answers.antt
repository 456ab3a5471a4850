use Rattle.std.proofs.Common.{◌+◌, drop}
use Rattle.t7_feed.specs.Cycles.{item_of}
use Rattle.t7_feed.specs.Sending.{entry_of}
use Rattle.t7_eobi.specs.declared.walks.Snap.TheVariants.{Instrument}
use Rattle.t7_snapshot.specs.Tallies.{IsTallied, securities_of}
use Rattle.t7_snapshot.proofs.Scripts.{left_order, left_section, section_left, tally_of}
use Rattle.t7_snapshot.proofs.script.Script.pass.Goals as goal

pub returns-in-Some-next_under : goal.returns-in-Some-next_under
returns-in-Some-next_under c = (let e = rw c.deref.ensures.value at c.in-Some-next_under.ensures in rw (← c.self.view_is) (item_of (entry_of e.0), rw c.in_default.is (left_order c.self.inside.under (securities_of (drop c.self.inside.next c.self.inside.tallies.items)) (drop c.self.inside.place c.self.inside.orders.items) (drop (c.in-Some-next_under.at + 1) c.self.inside.orders.items) c.self.inside.orders.items e.0 e.3)))

pub invariant_of-self-in-Some-tally_at : goal.invariant_of-self-in-Some-tally_at
invariant_of-self-in-Some-tally_at c =
    let there = rw c.deref-2.ensures.value at c.in-Some-tally_at.ensures in
    let telling = c.self.invariant.0 in (
      record {
        few = telling.few;
        tallied = telling.tallied;
        ranged = telling.ranged;
        numbered = telling.numbered;
        left_under = section_left c.self.inside.orders.items c.in-Some-tally_at.tally
            (tally_of (IsTallied c.self.inside.orders.items) c.self.inside.tallies.items c.self.inside.next c.in-Some-tally_at.tally there.0 there.1 telling.tallied);
      },
      c.self.invariant.1,
      c.self.invariant.2,
    )

pub returns-in-Some-tally_at : goal.returns-in-Some-tally_at
returns-in-Some-tally_at c =
    let there = rw c.deref-2.ensures.value at c.in-Some-tally_at.ensures in
    let none = rw c.deref.ensures.value at c.in_default-next_under.ensures in
    let telling = c.self.invariant.0 in
    rw (← c.self.view_is) (
      Instrument c.in-Some-tally_at.tally.security c.in-Some-tally_at.tally.count,
      rw c.in_default.is (left_section c.self.inside.orders.items c.self.inside.tallies.items c.self.inside.next c.in-Some-tally_at.tally c.self.inside.under (drop c.self.inside.place c.self.inside.orders.items) there.2 none
          (tally_of (IsTallied c.self.inside.orders.items) c.self.inside.tallies.items c.self.inside.next c.in-Some-tally_at.tally there.0 there.1 telling.tallied)),
    )
