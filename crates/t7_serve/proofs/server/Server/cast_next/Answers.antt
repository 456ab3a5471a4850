use Rattle.std.proofs.Common.{subst, OnErr}
use Rattle.t7_base.specs.Outside.{Begins, Grew}
use Rattle.t7_base.specs.declared.ids.Feed.TheVariants.{LiveA, LiveB}
use Rattle.t7_serve.specs.Servers.{CastsDatagram}
use Rattle.t7_serve.specs.Turns.{due_bytes, on_both}
use Rattle.t7_serve.specs.Venues.{Venue}
use Rattle.t7_serve.proofs.Going.{breaks_datagram, casts_datagram, on_err}
use Rattle.t7_serve.proofs.server.Server.cast_next.Goals as goal

pub returns-in_err-cast_both-clause-broke : goal.returns-in_err-cast_both-clause-broke
returns-in_err-cast_both-clause-broke g c =
    subst (λ (o : Venue). OnErr c.from_residual.result (Grew (g.D.Lines.cast c.args.lines.now) (g.D.Lines.cast c.cast_both.new.lines)
    (λ added. Begins added (on_both LiveA LiveB (due_bytes o.day))))) c.self.view_is
    (on_err c.from_residual.result
    (breaks_datagram c.self.inside.exchange c.next_datagram.new.self _ c.next_datagram.new.out c.in-Some.sent c.in-Some.ensures _ _
    c.in_err-cast_both.ensures.broke))

pub returns-clause-went : goal.returns-clause-went
returns-clause-went g c =
    subst (λ (o : Venue). CastsDatagram o (record { day = c.next_datagram.new.self; came = c.self.inside.came; events = c.self.inside.events })
    (g.D.Lines.cast c.args.lines.now) (g.D.Lines.cast c.cast_both.new.lines)) c.self.view_is
    (casts_datagram c.self.inside.exchange c.next_datagram.new.self _ c.next_datagram.new.out c.in-Some.sent c.in-Some.ensures c.self.inside.came
    c.self.inside.events _ _
    c.in_ok-cast_both.ensures.cast)
