use Rattle.std.proofs.Common.{rules, ◌≡◌, Some, refl, subst}
use Rattle.t7_exchange.specs.declared.replies.Reply.TheVariants as handed
use Rattle.t7_exchange.specs.Handed.{first_handed}
use Rattle.t7_serve.specs.Servers.{SendsNext, SendsReply}
use Rattle.t7_serve.specs.Venues.{Venue}
use Rattle.std.specs.Prelude.{IfOk}
use Rattle.t7_serve.proofs.Going.{frame_went, same_venue, sends_close}
use Rattle.t7_serve.proofs.server.Server.send_next.Goals as goal

pub returns-in-Some-Close-clause-went : goal.returns-in-Some-Close-clause-went
returns-in-Some-Close-clause-went g c =
    let v : Venue = record { day = c.self.inside.exchange; came = c.self.inside.came; events = c.self.inside.events } in
    let is : first_handed v.day.setting.layouts v.day.waiting ≡ Some (handed.Close c.in-Some-Close.conn) = search rules in
    subst (λ (o : Venue). SendsReply o (record { day = c.next_reply.new.self; came = c.remove.new.self; events = c.self.inside.events })
    (g.L.Link.sent c.args.link.now) (g.L.Link.sent c.close.new.self)) c.self.view_is
    (sends_close v _ c.in-Some-Close.conn _ _ is (same_venue _ _ _ _ c.self.inside.events c.in-Some-Close.ensures.others c.remove.ensures) c.close.ensures.sent)

pub returns-in-Some-Bytes-clause-went : goal.returns-in-Some-Bytes-clause-went
returns-in-Some-Bytes-clause-went g c =
    let v : Venue = record { day = c.self.inside.exchange; came = c.self.inside.came; events = c.self.inside.events } in
    let is : first_handed v.day.setting.layouts v.day.waiting ≡ Some (handed.Bytes c.in-Some-Bytes.conn c.in-Some-Bytes.len) = search rules in
    subst (λ (o : Venue). IfOk c.send.result (SendsNext o (record { day = c.next_reply.new.self; came = c.self.inside.came; events = c.self.inside.events })
    (g.L.Link.sent c.args.link.now) (g.L.Link.sent c.send.new.link))) c.self.view_is
    (frame_went v c.in-Some-Bytes.conn c.in-Some-Bytes.len _ c.next_reply.new.out _ _ is c.in-Some-Bytes.ensures.bytes _ c.send.result
    (same_venue _ _ _ _ c.self.inside.events c.in-Some-Bytes.ensures.others refl) c.send.ensures.sent c.send.ensures.more)
