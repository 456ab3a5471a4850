use Rattle.std.proofs.Common.{◌≡◌, ◌+◌, true, false, ap, subst, ◌∙◌, sym, refl}
use Rattle.t7_serve.specs.Servers.{Broke, Done, item_of}
use Rattle.t7_serve.specs.Turns.{is_due}
use Rattle.t7_serve.specs.Venues.{Turn, Venue}
use Rattle.t7_serve.proofs.Going.{on_err}
use Rattle.t7_serve.proofs.Steps.{counted_after, event_broke, event_done, event_not_handed, follows_due, follows_none, ready_after}
use Rattle.t7_serve.proofs.Turning.{rests_done}
use Rattle.t7_serve.proofs.server.Server.do_event.Goals as goal

pub returns-in_err-hand_out-clause-broke : goal.returns-in_err-hand_out-clause-broke
returns-in_err-hand_out-clause-broke g c =
    let counted : Venue = record { day = c.self.inside.exchange; came = c.self.inside.came; events = c.self.inside.events + 1 } in
    let is : counted ≡ record c.args.self.now { events = c.args.self.now.events + 1 } = ap (λ (v : Venue). record v { events = v.events + 1 }) c.self.view_is in
    on_err c.from_residual-in_err-hand_out.result
    (event_not_handed c.args.self.now counted c.take.new.self (item_of c.args.event c.args.into.now) c.args.moment _ _ _ is c.in_ok-take.ensures.venue
    c.in_ok-take.ensures.sent _ _
    c.in_err-hand_out.ensures.broke)

pub returns-in_err-tick-clause-broke : goal.returns-in_err-tick-clause-broke
returns-in_err-tick-clause-broke g c =
    let what = item_of c.args.event c.args.into.now in
    let out = c.hand_out.new.self in
    let counted : Venue = record { day = c.self.inside.exchange; came = c.self.inside.came; events = c.self.inside.events + 1 } in
    let is : counted ≡ record c.args.self.now { events = c.args.self.now.events + 1 } = ap (λ (v : Venue). record v { events = v.events + 1 }) c.self.view_is in
    let due : is_due what out.events ≡ true = ap (is_due what) (sym (ap (λ (v : Venue). v.events) c.self-2.view_is))
    ∙ sym (c.is_due.ensures c.args.into.now c.requires.some) ∙ c.if-is_due.true in
    on_err c.from_residual-in_err-tick.result
    (event_broke c.args.self.now counted c.take.new.self what c.args.moment _ _ _ is c.in_ok-take.ensures.venue c.in_ok-take.ensures.sent out _ _
    c.in_ok-hand_out.ensures.done _ _
    (subst (λ (t : Turn). Broke t (g.L.Link.sent c.hand_out.new.link) (g.L.Link.sent c.tick.new.link) (g.D.Lines.cast c.hand_out.new.lines)
    (g.D.Lines.cast c.tick.new.lines)) (sym (follows_due what c.args.moment out due)) c.in_err-tick.ensures.broke))

pub returns-in_ok-tick-clause-done : goal.returns-in_ok-tick-clause-done
returns-in_ok-tick-clause-done g c =
    let what = item_of c.args.event c.args.into.now in
    let out = c.hand_out.new.self in
    let counted : Venue = record { day = c.self.inside.exchange; came = c.self.inside.came; events = c.self.inside.events + 1 } in
    let is : counted ≡ record c.args.self.now { events = c.args.self.now.events + 1 } = ap (λ (v : Venue). record v { events = v.events + 1 }) c.self.view_is in
    let due : is_due what out.events ≡ true = ap (is_due what) (sym (ap (λ (v : Venue). v.events) c.self-2.view_is))
    ∙ sym (c.is_due.ensures c.args.into.now c.requires.some) ∙ c.if-is_due.true in
    event_done c.args.self.now counted c.take.new.self what c.args.moment _ _ _ is c.in_ok-take.ensures.venue c.in_ok-take.ensures.sent out _ _
    c.in_ok-hand_out.ensures.done
    c.tick.new.self _ _ (subst (λ (t : Turn). Done t c.tick.new.self (g.L.Link.sent c.hand_out.new.link) (g.L.Link.sent c.tick.new.link)
    (g.D.Lines.cast c.hand_out.new.lines) (g.D.Lines.cast c.tick.new.lines)) (sym (follows_due what c.args.moment out due)) c.in_ok-tick.ensures.done)

pub returns-in_ok-tick-clause-ready : goal.returns-in_ok-tick-clause-ready
returns-in_ok-tick-clause-ready g c =
    ready_after (item_of c.args.event c.args.into.now) c.args.moment c.args.self.now c.tick.new.self c.requires.ready (returns-in_ok-tick-clause-done g c).venue

pub returns-in_ok-tick-clause-counted : goal.returns-in_ok-tick-clause-counted
returns-in_ok-tick-clause-counted g c =
    counted_after (item_of c.args.event c.args.into.now) c.args.moment c.args.self.now c.tick.new.self (returns-in_ok-tick-clause-done g c).venue

pub returns-else-is_due-clause-done : goal.returns-else-is_due-clause-done
returns-else-is_due-clause-done g c =
    let what = item_of c.args.event c.args.into.now in
    let out = c.hand_out.new.self in
    let counted : Venue = record { day = c.self.inside.exchange; came = c.self.inside.came; events = c.self.inside.events + 1 } in
    let is : counted ≡ record c.args.self.now { events = c.args.self.now.events + 1 } = ap (λ (v : Venue). record v { events = v.events + 1 }) c.self.view_is in
    let none : is_due what out.events ≡ false = ap (is_due what) (sym (ap (λ (v : Venue). v.events) c.self-2.view_is))
    ∙ sym (c.is_due.ensures c.args.into.now c.requires.some) ∙ c.if-is_due.false in
    event_done c.args.self.now counted c.take.new.self what c.args.moment _ _ _ is c.in_ok-take.ensures.venue c.in_ok-take.ensures.sent out _ _
    c.in_ok-hand_out.ensures.done
    out _ _ (subst (λ (t : Turn). Done t out (g.L.Link.sent c.hand_out.new.link) (g.L.Link.sent c.hand_out.new.link) (g.D.Lines.cast c.hand_out.new.lines)
    (g.D.Lines.cast c.hand_out.new.lines)) (sym (follows_none what c.args.moment out none)) (rests_done out _ _ _ _ refl refl))
