use Rattle.std.proofs.Common.{rules, ◌≡◌, Err}
use Rattle.t7_outcome.specs.declared.ending.Stop.TheVariants.{WriteFault}
use Rattle.t7_replay.specs.Steps.{step_at}
use Rattle.t7_replay.proofs.Acting.{cut_at, not_write, refused_at}
use Rattle.t7_replay.proofs.replayer.Replayer.act.Goals as goal

pub returns-in_err-text-clause-stopped_at : goal.returns-in_err-text-clause-stopped_at
returns-in_err-text-clause-stopped_at g c =
    let is : c.from_residual.result ≡ Err c.in_err-text.field-0.0 = search rules in
    rw is (refused_at _ (λ terms world. step_at terms world c.args.line.now) c.args.self.now c.in_err-text.field-0.0 c.in_err-text.ensures.stopped)

pub returns-in_err-text-clause-write_fault : goal.returns-in_err-text-clause-write_fault
returns-in_err-text-clause-write_fault g c = λ fault.
    let is : c.from_residual.result ≡ Err c.in_err-text.field-0.0 = search rules in
    let same : c.in_err-text.field-0.0 ≡ WriteFault = cc in
    absurd (not_write c.in_err-text.field-0.0 same c.in_err-text.ensures.stopped.of_line)

pub returns-clause-stopped_at : goal.returns-clause-stopped_at
returns-clause-stopped_at g c =
    cut_at _ _ (λ terms world. step_at terms world c.args.line.now) c.args.self.now _ c.in_ok-text.text.items c.put_text.result
    (search rules) c.put_text.ensures.only c.in_ok-text.ensures.done
