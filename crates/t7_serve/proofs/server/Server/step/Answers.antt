use Rattle.std.proofs.Common.{rules, ◌≡◌, ◌≢◌, false, sym, ◌∙◌}
use Rattle.t7_net.specs.declared.link.LinkEvent.TheVariants as event
use Rattle.t7_serve.specs.Servers.{item_of}
use Rattle.t7_serve.specs.Turns.{is_too_long}
use Rattle.t7_serve.proofs.Steps.{step_stepped}
use Rattle.t7_serve.proofs.server.Server.step.Goals as goal

pub returns-clause-stepped : goal.returns-clause-stepped
returns-clause-stepped g c =
    let what = item_of c.next-event.result c.next-event.new.into in
    let some : c.next-event.result ≢ event.Failed = search rules in
    let short : is_too_long what c.args.self.now ≡ false = sym c.is_too_long.ensures ∙ c.if-is_too_long.false in
    step_stepped c.args.self.now c.do_event.new.self _ _ _ _ _ _ _ _ _ _ c.next-event.result c.next-event.new.into c.now-moment.result c.do_event.result some
    short
    c.next-event.ensures.sent c.do_event.ensures.events c.next-event.ensures.events c.now-moment.ensures.given c.do_event.ensures.done
    c.do_event.ensures.broke c.do_event.ensures.only
