use Rattle.std.proofs.Common.{rules, ◌≡◌, ◌+◌, ◌<◌, ◌≤◌, List, Ok, Err, length, reverse, arith}
use Rattle.t7_net.specs.declared.line.LineItem.{LineItem}
use Rattle.t7_follow.specs.Followers.{Stepped, Watches}
use Rattle.t7_follow.proofs.Growing.{grew_next}
use Rattle.t7_follow.proofs.Watching.{Goes, goes_next, goes_stopped}
use Rattle.t7_follow.proofs.follower.watch.Goals as goal

pub returns-in_err-step-clause-watched : goal.returns-in_err-step-clause-watched
returns-in_err-step-clause-watched g c = λ terms are stands.
    let i = c.loop-number._number in
    let old = c.loop-number.follower in
    let new = c.step.new.self in
    let p = g.S.Sink.written c.args.sink.now in
    let q = g.S.Sink.written c.loop-number.sink in
    let o = g.S.Sink.written c.step.new.sink in
    let stop = c.in_err-step.field-0.0 in
    let below : c.loop-number._number < c.args.count = omega arith in
    let is : c.step.result ≡ Err c.in_err-step.field-0.0 = search rules in
    let ended : c.from_residual.result ≡ Err c.in_err-step.field-0.0 = search rules in
    grew_next _ _ _ (λ (xs : List LineItem). Goes terms i old p q (reverse xs))
    (λ (xs : List LineItem). Watches terms c.args.count _ p o c.from_residual.result (reverse xs))
    (λ (ys : List LineItem). length ys ≤ 1) (λ (xs ys : List LineItem). Stepped terms (reverse xs) new q o c.step.result ys)
    (c.loop-number.invariant.goes terms are stands) c.step.ensures.one (λ xs goes. c.step.ensures.stepped terms (reverse xs) are goes.stands)
    (λ xs ys goes step. goes_stopped terms i c.args.count xs ys old new _ p q o c.step.result c.from_residual.result stop below is ended goes step)

pub loop-number-preserved : goal.loop-number-preserved
loop-number-preserved g c =
    let i = c.loop-number._number in
    let old = c.loop-number.follower in
    let new = c.step.new.self in
    let p = g.S.Sink.written c.args.sink.now in
    let q = g.S.Sink.written c.loop-number.sink in
    let o = g.S.Sink.written c.step.new.sink in
    let is : c.step.result ≡ Ok c.in_ok-step.field-0 = search rules in
    record {
      goes = λ terms are stands.
          grew_next _ _ _ (λ (xs : List LineItem). Goes terms i old p q (reverse xs)) (λ (xs : List LineItem). Goes terms (i + 1) new p o (reverse xs))
          (λ (ys : List LineItem). length ys ≤ 1) (λ (xs ys : List LineItem). Stepped terms (reverse xs) new q o c.step.result ys)
          (c.loop-number.invariant.goes terms are stands) c.step.ensures.one (λ xs goes. c.step.ensures.stepped terms (reverse xs) are goes.stands)
          (λ xs ys goes step. goes_next terms i xs ys old new p q o c.step.result c.in_ok-step.field-0 is goes step);
      few = omega arith;
      asked = cc;
      cast = cc;
      lines_count = omega arith;
      sink_count = omega arith;
    }
