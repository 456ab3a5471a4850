-- The request and its datagrams are those of the drill.
use Rattle.std.proofs.Common.{sym, subst, refl}
use Rattle.t7_drill.specs.Inside.{kit_of}
use Rattle.t7_drill.specs.Kits.{Kit, Stands}
use Rattle.t7_drill.specs.Worlds.{requested}
use Rattle.t7_drill.proofs.Standing.{along, asked_on}
use Rattle.t7_drill.proofs.day.Drill.ask.Goals as goal

pub returns-clause-stands : goal.returns-clause-stands
returns-clause-stands c = λ w stands.
    let old = kit_of c.self.inside in
    let there = subst (λ (k : Kit). Stands w k) (sym c.self.view_is) stands in
    let new : Kit = record old { draw = c.feed.new.draw; day = c.feed.new.exchange; copies = c.feed.new.copies.items; image = c.feed.new.member } in
    along (requested c.args.conn c.args.request.now) w old new there
    (λ acts came heard. asked_on c.args.conn c.args.request.now old new c.ask.new.exchange acts came c.is_sound.ensures.terms
    c.in_ok-rejected.ensures.day c.in_ok-feed.ensures.day c.in_ok-feed.ensures.fed refl refl refl heard)
