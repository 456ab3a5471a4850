use Rattle.std.proofs.Common.{rules, ◌≡◌, ◌≤◌, List, Ok, Err, arith}
use Rattle.t7_outcome.specs.declared.ending.Finish.{Finish}
use Rattle.t7_outcome.specs.declared.ending.Finish.TheVariants.{End}
use Rattle.t7_serve.specs.Served.{Taking}
use Rattle.t7_serve.specs.Servers.{IsReady}
use Rattle.t7_serve.proofs.Ending.{OfRun, told_acts, told_done, told_stopped, upto_done, upto_stopped}
use Rattle.t7_serve.proofs.command.run.Goals as goal

-- it was stopped while events were taken

pub returns-in_err-take_events-clause-came : goal.returns-in_err-take_events-clause-came
returns-in_err-take_events-clause-came g c = λ terms new.
    let is : c.take_events.result ≡ Err c.in_err-take_events.field-0.0 = search rules in
    let ended : c.from_residual.result ≡ Err c.in_err-take_events.field-0.0 = search rules in
    told_stopped terms c.args.count c.take_events.new.server _ _ _ _ _ _ _ _
    c.take_events.result c.from_residual.result c.in_err-take_events.field-0.0 is ended (c.take_events.ensures.served terms new)

pub returns-in_err-take_events-clause-events : goal.returns-in_err-take_events-clause-events
returns-in_err-take_events-clause-events g c =
    let is : c.take_events.result ≡ Err c.in_err-take_events.field-0.0 = search rules in
    let ended : c.from_residual.result ≡ Err c.in_err-take_events.field-0.0 = search rules in
    upto_stopped _ _ c.args.count c.take_events.result c.from_residual.result c.in_err-take_events.field-0.0 is ended c.take_events.ensures.events

-- it came to its end

pub returns-clause-came : goal.returns-clause-came
returns-clause-came g c = λ terms new.
    let is : c.take_events.result ≡ Ok c.in_ok-take_events.field-0 = search rules in
    told_done terms c.args.count c.take_events.new.server _ _ _ _ _ _ _ _
    c.take_events.result c.in_ok-take_events.field-0 c.messages.result is c.messages.ensures (c.take_events.ensures.served terms new)

pub returns-clause-events : goal.returns-clause-events
returns-clause-events g c =
    let is : c.take_events.result ≡ Ok c.in_ok-take_events.field-0 = search rules in
    upto_done {U = Finish} _ _ c.args.count c.take_events.result c.in_ok-take_events.field-0 (End c.messages.result) is c.take_events.ensures.events

pub returns-clause-acts : goal.returns-clause-acts
returns-clause-acts g c = λ terms new.
    let is : c.take_events.result ≡ Ok c.in_ok-take_events.field-0 = search rules in
    let ready : IsReady c.take_events.new.server = c.in_ok-take_events.ensures.ready in
    let few : c.take_events.new.server.events ≤ 1_000_000_000 = omega (arith, c.in_ok-take_events.ensures.counted) in
    let laws = c.casts_are_those_of_the_acts.ensures in
    let of : ((ts : List Taking) → OfRun terms ts) = (λ ts. record {
      commands = laws.commands terms ts;
      beats = laws.beats terms ts;
      snaps = laws.snaps terms ts;
      setting = laws.setting terms ts;
    }) in
    told_acts terms c.args.count c.take_events.new.server _ _ _ _ _ _ _ _ c.take_events.result c.in_ok-take_events.field-0 is of
    ready few
    c.is_sound.ensures.accepted c.is_sound.ensures.ranged (c.take_events.ensures.served terms new)
