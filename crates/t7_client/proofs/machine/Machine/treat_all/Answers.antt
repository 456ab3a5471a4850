use Rattle.std.proofs.Common.{ℕ, List, [], ◌∙◌}
use Rattle.std.proofs.lemmas.Result.{err_from_is_err_and}
use Rattle.t7_client.specs.Going.{Treats}
use Rattle.t7_client.proofs.Continuing.{continues_on, stops_before}
use Rattle.t7_client.proofs.machine.Machine.treat_all.Goals as goal

pub returns-in_err-step-clause-stops : goal.returns-in_err-step-clause-stops
returns-in_err-step-clause-stops c =
    let p = err_from_is_err_and c.from_residual.result c.from_residual.ensures.1 in
    rw (p.1, p.2) (λ (more : List ℕ). stops_before _ _ _ _ _ _ (c.loop.invariant.goes more) (c.in_err-step.ensures.stops more))

pub loop-preserved : goal.loop-preserved
loop-preserved c =
    let t : Treats c.loop.self c.step.new.self = rw c.if-branch.true at c.in_ok-step.ensures.goes in
    record {
      sound = t.sound;
      goes = λ (more : List ℕ). continues_on _ _ _ _ _ _ (c.loop.invariant.goes more) (t.goes more);
      dialed = (t.goes []).stays.dialed ∙ c.loop.invariant.dialed;
      session = (t.goes []).stays.session ∙ c.loop.invariant.session;
    }
