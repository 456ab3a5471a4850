use Rattle.std.proofs.Common.{rules, ◌≡◌, ◌≢◌, ℕ, List, [], Option, Result, Ok, Err, inl, refl, sym, ◌∙◌, ap, subst}
use Rattle.t7_base.specs.Outside.{Grew}
use Rattle.t7_net.specs.Links.{LinkSent, link_taken}
use Rattle.t7_net.specs.declared.link.LinkEvent.TheVariants.{Failed}
use Rattle.t7_outcome.specs.declared.ending.Stop.{Stop}
use Rattle.t7_outcome.specs.declared.ending.Stop.TheVariants.{NetFault}
use Rattle.t7_gather.specs.Steps.{Meets, Sends, SentAt, Stepped, is_shut, news_in}
use Rattle.t7_gather.proofs.Grown.{link_after, sent_nothing}
use Rattle.t7_gather.proofs.Meeting.{cut_off, due_sent, front_by, none_sent, sent_by, stepped, stopped}
use Rattle.t7_gather.proofs.Sending.{sends_all, sends_front}
use Rattle.t7_gather.proofs.gatherer.Gatherer.step.Goals as goal

-- the event stopped the run
pub returns-in_err-misfit-clause-stepped : goal.returns-in_err-misfit-clause-stepped
returns-in_err-misfit-clause-stepped g c =
    let conn = c.args.self.now.conn in
    let what = c.next-event.result in
    let into = c.next-event.new.into in
    let old = c.args.self.now.client in
    let mid = c.meet.new.self.client in
    let stop = c.in_err-misfit.field-0.0 in
    let answer = c.from_residual.result in
    let some : c.next-event.result ≢ Failed = search rules in
    let is : c.meet.result ≡ Err c.in_err-misfit.field-0.0 = search rules in
    let ends : c.from_residual.result ≡ Err c.in_err-misfit.field-0.0 = search rules in
    let meets = subst (λ (r : Result (Option ℕ) Stop). Meets (news_in conn what into) old mid r) is c.meet.ensures.meets in
    link_after _ _ _ _ _ _ (Stepped conn old mid answer) (SentAt conn old answer) (λ added. added ≡ link_taken what into)
    (λ ys. ys ≡ []) refl refl c.next-event.ensures.events
    (sent_nothing _ _ c.next-event.ensures.sent) (λ xs at. stopped conn what into old mid stop some xs at meets answer ends)
    (λ xs ys at none. subst (λ (l : List LinkSent). SentAt conn old answer xs l) (sym none)
    (none_sent conn what into old mid stop some xs at meets answer ends))

-- what was due could not be sent
pub returns-in_err-send-clause-stepped : goal.returns-in_err-send-clause-stepped
returns-in_err-send-clause-stepped g c =
    let conn = c.args.self.now.conn in
    let what = c.next-event.result in
    let into = c.next-event.new.into in
    let old = c.args.self.now.client in
    let mid = c.meet.new.self.client in
    let now = c.send.new.self.client in
    let misfit = c.in_ok-misfit.misfit in
    let answer = c.from_residual-in_err-send.result in
    let some : c.next-event.result ≢ Failed = search rules in
    let is : c.meet.result ≡ Ok c.in_ok-misfit.misfit = search rules in
    let stops : c.send.result ≡ Err c.in_err-send.field-0.0 = search rules in
    let net : c.from_residual-in_err-send.result ≡ Err NetFault = search rules in
    let meets = subst (λ (r : Result (Option ℕ) Stop). Meets (news_in conn what into) old mid r) is c.meet.ensures.meets in
    let sent = subst (λ (k : ℕ). Grew (g.L.Link.sent c.next-event.new.self) (g.L.Link.sent c.send.new.link)
    (Sends k mid.queue c.send.result)) c.meet.ensures.conn c.send.ensures.sent in
    link_after _ _ _ _ _ _ (Stepped conn old now answer) (SentAt conn old answer) (λ added. added ≡ link_taken what into)
    (Sends conn mid.queue c.send.result) c.send.ensures.events
    c.next-event.ensures.sent c.next-event.ensures.events sent (λ xs at. cut_off conn what into old mid misfit some xs at meets now answer net)
    (λ xs ys at sends. due_sent conn what into old mid misfit some xs at meets answer ys
    (front_by conn mid.queue answer ys (inl net) (sends_front conn mid.queue c.send.result c.in_err-send.field-0.0 ys stops sends)))

-- it happened
pub returns-clause-stepped : goal.returns-clause-stepped
returns-clause-stepped g c =
    let conn = c.args.self.now.conn in
    let what = c.next-event.result in
    let into = c.next-event.new.into in
    let old = c.args.self.now.client in
    let mid = c.meet.new.self.client in
    let now = c.send.new.self.client in
    let misfit = c.in_ok-misfit.misfit in
    let answer = c.look.result in
    let some : c.next-event.result ≢ Failed = search rules in
    let is : c.meet.result ≡ Ok c.in_ok-misfit.misfit = search rules in
    let all : c.send.result ≡ Ok c.in_ok-send.field-0 = search rules in
    let meets = subst (λ (r : Result (Option ℕ) Stop). Meets (news_in conn what into) old mid r) is c.meet.ensures.meets in
    let sent = subst (λ (k : ℕ). Grew (g.L.Link.sent c.next-event.new.self) (g.L.Link.sent c.send.new.link)
    (Sends k mid.queue c.send.result)) c.meet.ensures.conn c.send.ensures.sent in
    let shut = c.closes.ensures into ∙ ap (λ (k : ℕ). is_shut (news_in k what into)) (c.send.ensures.conn ∙ c.meet.ensures.conn) in
    link_after _ _ _ _ _ _ (Stepped conn old now answer) (SentAt conn old answer) (λ added. added ≡ link_taken what into)
    (Sends conn mid.queue c.send.result) c.send.ensures.events
    c.next-event.ensures.sent c.next-event.ensures.events sent
    (λ xs at. stepped conn what into old mid misfit some xs at meets now c.closes.result answer c.in_ok-send.ensures.client shut c.look.ensures)
    (λ xs ys at sends. due_sent conn what into old mid misfit some xs at meets answer ys
    (sent_by conn mid.queue answer ys (sends_all conn mid.queue c.send.result c.in_ok-send.field-0 ys all sends)))
