use Rattle.std.proofs.Common.{rules, ◌≡◌, ap, ◌∙◌, refl}
use Rattle.t7_entry.specs.Days.{day_after}
use Rattle.t7_entry.specs.Events.{Tick}
use Rattle.t7_serve.specs.Turns.{enters}
use Rattle.t7_serve.specs.Venues.{Venue}
use Rattle.t7_serve.proofs.Going.{on_err, same_venue, when_broke, when_done}
use Rattle.t7_serve.proofs.Steps.{tick_done, tick_not_beaten, tick_not_handed, tick_not_snapped}
use Rattle.t7_serve.proofs.server.Server.tick.Goals as goal

pub returns-in_err-hand_out-clause-broke : goal.returns-in_err-hand_out-clause-broke
returns-in_err-hand_out-clause-broke g c =
    let ticked : Venue = record { day = c.tick.new.self; came = c.self.inside.came; events = c.self.inside.events } in
    let day : c.tick.new.self ≡ day_after c.self.inside.exchange (Tick c.args.moment) = search rules in
    let is : ticked ≡ (enters (Tick c.args.moment) c.args.self.now).venue =
    same_venue _ _ _ _ c.self.inside.events day refl ∙ ap (λ (v : Venue). (enters (Tick c.args.moment) v).venue) c.self.view_is in
    on_err c.from_residual.result (tick_not_handed c.args.self.now ticked c.args.moment _ _ _ _ is c.in_err-hand_out.ensures.broke)

pub returns-in_err-beat-clause-broke : goal.returns-in_err-beat-clause-broke
returns-in_err-beat-clause-broke g c =
    let ticked : Venue = record { day = c.tick.new.self; came = c.self.inside.came; events = c.self.inside.events } in
    let day : c.tick.new.self ≡ day_after c.self.inside.exchange (Tick c.args.moment) = search rules in
    let is : ticked ≡ (enters (Tick c.args.moment) c.args.self.now).venue =
    same_venue _ _ _ _ c.self.inside.events day refl ∙ ap (λ (v : Venue). (enters (Tick c.args.moment) v).venue) c.self.view_is in
    on_err c.from_residual-in_err-beat.result
    (tick_not_beaten c.args.self.now ticked c.args.moment _ _ _ _ is c.hand_out.new.self _ c.in_ok-hand_out.ensures.done c.in_err-beat.ensures.broke)

pub returns-clause-done : goal.returns-clause-done
returns-clause-done g c =
    let ticked : Venue = record { day = c.tick.new.self; came = c.self.inside.came; events = c.self.inside.events } in
    let day : c.tick.new.self ≡ day_after c.self.inside.exchange (Tick c.args.moment) = search rules in
    let is : ticked ≡ (enters (Tick c.args.moment) c.args.self.now).venue =
    same_venue _ _ _ _ c.self.inside.events day refl ∙ ap (λ (v : Venue). (enters (Tick c.args.moment) v).venue) c.self.view_is in
    when_done c.snap.result c.snap.ensures.cast (λ cast.
    tick_done c.args.self.now ticked c.args.moment _ _ _ _ is c.hand_out.new.self _ c.in_ok-hand_out.ensures.done c.beat.new.self _ c.beat.ensures.venue
    c.in_ok-beat.ensures.cast
    c.snap.new.self c.snap.ensures.venue cast)

pub returns-clause-broke : goal.returns-clause-broke
returns-clause-broke g c =
    let ticked : Venue = record { day = c.tick.new.self; came = c.self.inside.came; events = c.self.inside.events } in
    let day : c.tick.new.self ≡ day_after c.self.inside.exchange (Tick c.args.moment) = search rules in
    let is : ticked ≡ (enters (Tick c.args.moment) c.args.self.now).venue =
    same_venue _ _ _ _ c.self.inside.events day refl ∙ ap (λ (v : Venue). (enters (Tick c.args.moment) v).venue) c.self.view_is in
    when_broke c.snap.result c.snap.ensures.broke (λ cut.
    tick_not_snapped c.args.self.now ticked c.args.moment _ _ _ _ is c.hand_out.new.self _ c.in_ok-hand_out.ensures.done c.beat.new.self _
    c.beat.ensures.venue c.in_ok-beat.ensures.cast cut)
