use Rattle.std.proofs.Common.{rules, ◌≡◌, ℕ, Ok, Err, arith, ◌∙◌, ap, subst}
use Rattle.t7_base.specs.Outside.{Grew}
use Rattle.t7_base.proofs.Grown.{grew_then}
use Rattle.t7_client.specs.Recovering.{Recovery}
use Rattle.t7_gather.specs.Steps.{Sends, SendsNext}
use Rattle.t7_gather.proofs.Sending.{SoFar, so_far_cut, so_far_next}
use Rattle.t7_gather.proofs.gatherer.Gatherer.send.Goals as goal

pub loop-out-preserved : goal.loop-out-preserved
loop-out-preserved g c =
    let conn = c.args.self.now.conn in
    let queue = c.args.self.now.client.queue in
    let mid = c.loop-out.self.client.queue in
    let left = c.send_next.new.self.client.queue in
    let is : c.send_next.result ≡ Ok c.in_ok-send_next.field-0 = search rules in
    let next = subst (λ (k : ℕ). Grew (g.L.Link.sent c.loop-out.link) (g.L.Link.sent c.send_next.new.link)
    (SendsNext k mid left c.send_next.result)) c.loop-out.invariant.conn c.send_next.ensures.sent in
    record {
      sent = grew_then _ _ _ (SoFar conn queue mid) (SendsNext conn mid left c.send_next.result) (SoFar conn queue left) c.loop-out.invariant.sent next
          (λ xs ys so_far sent. so_far_next conn queue mid left c.send_next.result c.in_ok-send_next.field-0 xs ys is so_far sent);
      client = c.send_next.ensures.client ∙ ap (λ (r : Recovery). record r { queue = left }) c.loop-out.invariant.client;
      conn = c.send_next.ensures.conn ∙ c.loop-out.invariant.conn;
      came = c.send_next.ensures.came ∙ c.loop-out.invariant.came;
      asked = c.send_next.ensures.asked ∙ c.loop-out.invariant.asked;
      events = c.send_next.ensures.events ∙ c.loop-out.invariant.events;
      count = omega (arith, c.send_next.ensures.cause.later);
    }

pub returns-in_err-send_next-clause-sent : goal.returns-in_err-send_next-clause-sent
returns-in_err-send_next-clause-sent g c =
    let conn = c.args.self.now.conn in
    let queue = c.args.self.now.client.queue in
    let mid = c.loop-out.self.client.queue in
    let left = c.send_next.new.self.client.queue in
    let stop = c.in_err-send_next.field-0.0 in
    let is : c.send_next.result ≡ Err c.in_err-send_next.field-0.0 = search rules in
    let ended : c.from_residual.result ≡ Err c.in_err-send_next.field-0.0 = search rules in
    let next = subst (λ (k : ℕ). Grew (g.L.Link.sent c.loop-out.link) (g.L.Link.sent c.send_next.new.link)
    (SendsNext k mid left c.send_next.result)) c.loop-out.invariant.conn c.send_next.ensures.sent in
    grew_then _ _ _ (SoFar conn queue mid) (SendsNext conn mid left c.send_next.result) (Sends conn queue c.from_residual.result) c.loop-out.invariant.sent next
    (λ xs ys so_far sent. so_far_cut conn queue mid left c.send_next.result c.from_residual.result stop xs ys is ended so_far sent)
