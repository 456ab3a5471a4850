use Rattle.std.proofs.Common.{rules, ◌≡◌, ◌<◌, Result, Ok, Err, arith, refl, length}
use Rattle.t7_base.proofs.Grown.{grew_nothing}
use Rattle.t7_outcome.specs.declared.ending.Stop.{Stop}
use Rattle.t7_serve.proofs.Taking.{counted_all, counted_next, counted_stopped, goes_done, goes_first, goes_next, goes_stopped}
use Rattle.t7_serve.proofs.server.take_events.Goals as goal

pub loop-number-init : goal.loop-number-init
loop-number-init g c = record {
  goes = λ terms is. goes_first terms _ _ _ _ c.args.server.now is;
  some = grew_nothing _ (λ items. length items ≡ 0) refl;
  ready = c.requires.new;
  events = c.requires.none;
  listens = refl;
  binds = refl;
  taken = refl;
  link_count = omega arith;
  lines_count = omega arith;
}

pub returns-in_err-step-clause-served : goal.returns-in_err-step-clause-served
returns-in_err-step-clause-served g c = λ terms is.
    let i = c.loop-number._number in
    let stop = c.in_err-step.field-0.0 in
    let below : c.loop-number._number < c.args.count = omega arith in
    let was : c.step.result ≡ Err c.in_err-step.field-0.0 = search rules in
    let ended : c.from_residual.result ≡ Err c.in_err-step.field-0.0 = search rules in
    goes_stopped terms i c.args.count c.loop-number.server c.step.new.self c.step.new.self _ _ _ _ _ _ _ _ _ _ _ _ c.step.result c.from_residual.result stop
    below was ended
    (c.loop-number.invariant.goes terms is) c.step.ensures.stepped

pub returns-in_err-step-clause-events : goal.returns-in_err-step-clause-events
returns-in_err-step-clause-events g c =
    let below : c.loop-number._number < c.args.count = omega arith in
    let was : c.step.result ≡ Err c.in_err-step.field-0.0 = search rules in
    let ended : c.from_residual.result ≡ Err c.in_err-step.field-0.0 = search rules in
    counted_stopped _ _ _ c.loop-number._number c.args.count c.step.result c.from_residual.result c.in_err-step.field-0.0 below was ended
    c.loop-number.invariant.some c.step.ensures.one

pub loop-number-preserved : goal.loop-number-preserved
loop-number-preserved g c =
    let was : c.step.result ≡ Ok c.in_ok-step.field-0 = search rules in
    record {
      goes = λ terms is.
          goes_next terms c.loop-number._number c.loop-number.server c.step.new.self _ _ _ _ _ _ _ _ _ _ _ _ c.step.result c.in_ok-step.field-0 was
          (c.loop-number.invariant.goes terms is) c.step.ensures.stepped;
      some = counted_next _ _ _ c.loop-number._number c.step.result c.in_ok-step.field-0 was c.loop-number.invariant.some c.step.ensures.one;
      ready = c.in_ok-step.ensures.ready;
      events = omega (arith, c.in_ok-step.ensures.counted);
      listens = cc;
      binds = cc;
      taken = cc;
      link_count = omega arith;
      lines_count = omega arith;
    }

pub returns-clause-served : goal.returns-clause-served
returns-clause-served g c = λ terms is.
    let all : c.loop-number._number ≡ c.args.count = omega arith in
    goes_done {T = Unit {0}} terms c.loop-number._number c.args.count c.loop-number.server _ _ _ _ _ _ _ _ (let done : Result (Unit {0}) Stop = Ok tt in done)
    tt all refl
    (c.loop-number.invariant.goes terms is)

pub returns-clause-events : goal.returns-clause-events
returns-clause-events g c =
    let all : c.loop-number._number ≡ c.args.count = omega arith in
    counted_all _ _ c.loop-number._number c.args.count all c.loop-number.invariant.some
