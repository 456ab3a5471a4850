-- A new cycle is begun, and what is left of it is sent.
use Rattle.std.proofs.Common.{◌≡◌, ◌+◌, [], length, sym, ap, subst}
use Rattle.t7_entry.specs.Days.{Day}
use Rattle.t7_drill.specs.Kits.{Stands}
use Rattle.t7_drill.specs.Worlds.{World, to_send}
use Rattle.t7_drill.proofs.Standing.{cycled_after}
use Rattle.t7_drill.proofs.day.Drill.send_cycle.Goals as goal

pub returns-clause-stands : goal.returns-clause-stands
returns-clause-stands c = λ w stands.
    let day = ap (λ (x : World). x.day) stands.is in
    let none = subst (λ (d : Day). d.left ≡ []) (sym day) c.requires.left in
    let some = subst (λ (d : Day). length (to_send d) ≡ length c.snap.new.self.day.left + 1) (sym day) c.snap.ensures.some in
    subst (λ (x : World). Stands x c.end_cycle.new.self) (cycled_after w (length c.snap.new.self.day.left) none some)
    (c.end_cycle.ensures.stands _ (c.snap.ensures.stands w stands))
