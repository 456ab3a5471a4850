-- What is left of the cycle is sent.
use Rattle.std.proofs.Common.{◌≡◌, ◌+◌, [], length, refl, sym, ap, subst, ◌∙◌, arith}
use Rattle.t7_base.specs.declared.ids.Feed.TheVariants.{SnapB}
use Rattle.t7_entry.specs.Days.{Day}
use Rattle.t7_exchange.specs.Sending.{terms_of}
use Rattle.t7_feed.specs.Sending.{cycle_now}
use Rattle.t7_drill.specs.Entering.{accepted_in}
use Rattle.t7_drill.specs.Kits.{Stands}
use Rattle.t7_drill.specs.Worlds.{World, snap_on}
use Rattle.t7_drill.proofs.Standing.{ended_after, left_falls, nil_unless, sent_none}
use Rattle.t7_drill.proofs.day.Drill.end_cycle.Goals as goal

pub loop-self-preserved : goal.loop-self-preserved
loop-self-preserved c =
    let day = c.loop-self.self.day in
    let some = λ (none : day.left ≡ []). c.loop-self-test.ensures.0 refl none in
    record {
      stands = λ w stands.
          let before = c.loop-self.invariant.stands w stands in
          let same = ap (λ (x : World). x.day.left) before.1.is in
          (snap_on SnapB before.0, c.snap.ensures.stands before.0 before.1, ended_after before.0 (λ none. some (sym same ∙ none)) ∙ before.2);
      told = ap (λ (d : Day). d.untold) c.snap.ensures.day ∙ c.loop-self.invariant.told;
      sum = (let snaps : c.snap.new.self.day.snaps ≡ day.snaps + 1 = ap (λ (d : Day). d.snaps) c.snap.ensures.day in
          let left : length c.snap.new.self.day.left + 1 ≡ length day.left =
          ap (λ (d : Day). length d.left + 1) c.snap.ensures.day ∙ left_falls day.left (cycle_now (terms_of day) (accepted_in day)) some in
          let before = c.loop-self.invariant.sum in omega arith);
      beats = ap (λ (d : Day). d.beats) c.snap.ensures.day ∙ c.loop-self.invariant.beats;
    }

pub returns-clause-stands : goal.returns-clause-stands
returns-clause-stands c = λ w stands.
    let before = c.loop-self.invariant.stands w stands in
    let same = ap (λ (x : World). x.day.left) before.1.is in
    let none = nil_unless c.loop-self.self.day.left (λ some. (let e = c.loop-self-test.ensures.1 some in cc)) in
    subst (λ (x : World). Stands x c.loop-self.self) (sym (sent_none before.0 (same ∙ none)) ∙ before.2) before.1
