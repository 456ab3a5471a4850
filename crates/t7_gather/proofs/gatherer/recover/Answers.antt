use Rattle.std.proofs.Common.{rules, ◌≡◌, ℕ, ◌+◌, ◌<◌, ◌++◌, Some, None, Ok, Err, inl, reverse, arith, ◌∙◌, subst}
use Rattle.t7_outcome.specs.declared.ending.Stop.TheVariants.{NetFault}
use Rattle.t7_gather.specs.Clauses.{SentBy, SentOn}
use Rattle.t7_gather.specs.Steps.{OnLink, Recovers, Sends, SentAt, Stepped}
use Rattle.t7_gather.specs.Turns.{turns}
use Rattle.t7_gather.proofs.Grown.{link_sent, link_then}
use Rattle.t7_gather.proofs.Meeting.{front_by}
use Rattle.t7_gather.proofs.Recovering.{Goes, goes_next, recovers_end, recovers_none, recovers_stop, sent_next, sent_same, sent_whole}
use Rattle.t7_gather.proofs.Sending.{sends_front}
use Rattle.t7_gather.proofs.gatherer.recover.Goals as goal

-- what the dial queued could not be sent
pub returns-in_err-send-clause-recovers : goal.returns-in_err-send-clause-recovers
returns-in_err-send-clause-recovers g c =
    let conn = c.args.gatherer.now.conn in
    let client = c.args.gatherer.now.client in
    let ended = c.from_residual.result in
    let stops : c.send.result ≡ Err c.in_err-send.field-0.0 = search rules in
    let net : c.from_residual.result ≡ Err NetFault = search rules in
    link_sent _ _ _ _ (λ taken. Recovers c.args.count conn client c.send.new.self.client ended (reverse taken))
    (λ taken. SentBy conn (turns conn client (reverse taken)).sent ended)
    (Sends conn client.queue c.send.result) c.send.ensures.events c.send.ensures.sent
    (recovers_none c.args.count conn client c.send.new.self.client ended (inl net))
    (λ ys sends. front_by conn client.queue ended ys (inl net) (sends_front conn client.queue c.send.result c.in_err-send.field-0.0 ys stops sends))

-- the run was stopped
pub returns-in_err-finish-clause-recovers : goal.returns-in_err-finish-clause-recovers
returns-in_err-finish-clause-recovers g c =
    let conn = c.args.gatherer.now.conn in
    let client = c.args.gatherer.now.client in
    let mid = c.loop-number.gatherer.client in
    let now = c.step.new.self.client in
    let n = c.loop-number._number in
    let answer = c.step.result in
    let ended = c.from_residual-in_err-finish.result in
    let stop = c.in_err-finish.field-0.0 in
    let below : c.loop-number._number < c.args.count = omega arith in
    let is : c.step.result ≡ Err c.in_err-finish.field-0.0 = search rules in
    let ends : c.from_residual-in_err-finish.result ≡ Err c.in_err-finish.field-0.0 = search rules in
    let step =
    subst (λ (k : ℕ). OnLink (g.L.Link.events c.loop-number.link) (g.L.Link.events c.step.new.link) (g.L.Link.sent c.loop-number.link)
    (g.L.Link.sent c.step.new.link) (Stepped k mid now answer) (SentAt k mid answer))
    c.loop-number.invariant.conn c.step.ensures.stepped in
    link_then _ _ _ _ _ _ (λ taken. Goes conn n client mid (reverse taken)) (Stepped conn mid now answer)
    (λ taken. Recovers c.args.count conn client now ended (reverse taken))
    (λ taken. SentOn conn (turns conn client (reverse taken)).sent) (SentAt conn mid answer)
    (λ taken. SentBy conn (turns conn client (reverse taken)).sent ended) c.loop-number.invariant.goes step
    (λ xs vs goes stepped. recovers_stop c.args.count conn n client mid now answer ended stop xs vs below is ends goes stepped)
    (λ xs vs ys ws goes stepped front back. sent_same conn (turns conn client (reverse (xs ++ vs))).sent answer ended stop (ys ++ ws) is ends
    (sent_next conn n client mid now answer xs vs ys ws goes stepped front back))

-- all is recovered
pub returns-in-Some-clause-recovers : goal.returns-in-Some-clause-recovers
returns-in-Some-clause-recovers g c =
    let conn = c.args.gatherer.now.conn in
    let client = c.args.gatherer.now.client in
    let mid = c.loop-number.gatherer.client in
    let now = c.step.new.self.client in
    let n = c.loop-number._number in
    let answer = c.step.result in
    let finish = c.in-Some.finish in
    let below : c.loop-number._number < c.args.count = omega arith in
    let is : c.step.result ≡ Ok (Some c.in-Some.finish) = search rules in
    let step =
    subst (λ (k : ℕ). OnLink (g.L.Link.events c.loop-number.link) (g.L.Link.events c.step.new.link) (g.L.Link.sent c.loop-number.link)
    (g.L.Link.sent c.step.new.link) (Stepped k mid now answer) (SentAt k mid answer))
    c.loop-number.invariant.conn c.step.ensures.stepped in
    link_then _ _ _ _ _ _ (λ taken. Goes conn n client mid (reverse taken)) (Stepped conn mid now answer)
    (λ taken. Recovers c.args.count conn client now (Ok finish) (reverse taken))
    (λ taken. SentOn conn (turns conn client (reverse taken)).sent) (SentAt conn mid answer)
    (λ taken. SentOn conn (turns conn client (reverse taken)).sent) c.loop-number.invariant.goes step
    (λ xs vs goes stepped. recovers_end c.args.count conn n client mid now answer finish xs vs below is goes stepped)
    (λ xs vs ys ws goes stepped front back. sent_whole conn (turns conn client (reverse (xs ++ vs))).sent answer (Some finish) (ys ++ ws) is
    (sent_next conn n client mid now answer xs vs ys ws goes stepped front back))

pub loop-number-preserved : goal.loop-number-preserved
loop-number-preserved g c =
    let conn = c.args.gatherer.now.conn in
    let client = c.args.gatherer.now.client in
    let mid = c.loop-number.gatherer.client in
    let now = c.step.new.self.client in
    let n = c.loop-number._number in
    let answer = c.step.result in
    let is : c.step.result ≡ Ok None = search rules in
    let step =
    subst (λ (k : ℕ). OnLink (g.L.Link.events c.loop-number.link) (g.L.Link.events c.step.new.link) (g.L.Link.sent c.loop-number.link)
    (g.L.Link.sent c.step.new.link) (Stepped k mid now answer) (SentAt k mid answer))
    c.loop-number.invariant.conn c.step.ensures.stepped in
    record {
      goes =
          link_then _ _ _ _ _ _ (λ taken. Goes conn n client mid (reverse taken)) (Stepped conn mid now answer)
          (λ taken. Goes conn (n + 1) client now (reverse taken))
          (λ taken. SentOn conn (turns conn client (reverse taken)).sent) (SentAt conn mid answer)
          (λ taken. SentOn conn (turns conn client (reverse taken)).sent) c.loop-number.invariant.goes step
          (λ xs vs goes stepped. goes_next conn n client mid now answer xs vs is goes stepped)
          (λ xs vs ys ws goes stepped front back. sent_whole conn (turns conn client (reverse (xs ++ vs))).sent answer None (ys ++ ws) is
          (sent_next conn n client mid now answer xs vs ys ws goes stepped front back));
      going = c.step.ensures.going is;
      conn = c.step.ensures.conn ∙ c.loop-number.invariant.conn;
      asked = c.step.ensures.asked ∙ c.loop-number.invariant.asked;
      count = omega (arith, c.step.ensures.link_count, c.loop-number.invariant.count);
    }
