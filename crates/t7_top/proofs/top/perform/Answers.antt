use Rattle.std.proofs.Common.{rules, ◌≡◌, Some, map, refl, string_bytes}
use Rattle.t7_drill.specs.Drilled.{OfDrill}
use Rattle.t7_top.specs.declared.text.TheConstants.{HELP, VERSION}
use Rattle.t7_top.specs.Exercise.{exercised}
use Rattle.t7_top.specs.Meaning.{job_meant}
use Rattle.t7_top.specs.Text.{told}
use Rattle.t7_top.specs.Words.{Drill, Help, Over, Version, command_of}
use Rattle.t7_top.proofs.Performing.{files_said, no_read, sends_none, sent_said, sink_said}
use Rattle.t7_top.proofs.Reading.{files_none, sink_plain}
use Rattle.t7_top.proofs.Telling.{text_files}
use Rattle.t7_top.proofs.top.perform.Goals as goal

pub returns-in-Some-Over-clause-sink : goal.returns-in-Some-Over-clause-sink
returns-in-Some-Over-clause-sink g c =
    let is : command_of (map string_bytes c.args.words.now) ≡ Some (Over c.in-Some-Over.table.now c.in-Some-Over.product.now (job_meant c.in-Some-Over.job)) = search rules in
    sink_said _ _ is c.run_job.result _ _ _ _ _ _ _ c.run_job.ensures.sink

pub returns-in-Some-Over-clause-sent : goal.returns-in-Some-Over-clause-sent
returns-in-Some-Over-clause-sent g c =
    let is : command_of (map string_bytes c.args.words.now) ≡ Some (Over c.in-Some-Over.table.now c.in-Some-Over.product.now (job_meant c.in-Some-Over.job)) = search rules in
    sent_said _ _ is c.run_job.result _ _ _ c.run_job.ensures.sent

pub returns-in-Some-Drill-clause-files : goal.returns-in-Some-Drill-clause-files
returns-in-Some-Drill-clause-files g c =
    let is : command_of (map string_bytes c.args.words.now) ≡ Some (Drill c.in-Some-Drill.seed c.in-Some-Drill.orders) = search rules in
    files_said _ _ is c.exercise.result _ _ _ _ _
    (files_none _ _ (λ given. exercised c.in-Some-Drill.seed c.in-Some-Drill.orders) c.exercise.result _ (λ given. refl)
    (no_read OfDrill c.exercise.result (λ none. none) c.exercise.ensures.only))

pub returns-in-Some-Drill-clause-sink : goal.returns-in-Some-Drill-clause-sink
returns-in-Some-Drill-clause-sink g c =
    let is : command_of (map string_bytes c.args.words.now) ≡ Some (Drill c.in-Some-Drill.seed c.in-Some-Drill.orders) = search rules in
    sink_said _ _ is c.exercise.result _ _ _ _ _ _ _
    (sink_plain _ (exercised c.in-Some-Drill.seed c.in-Some-Drill.orders) c.exercise.result _ _ _ _
    c.exercise.ensures.end c.exercise.ensures.written c.exercise.ensures.count c.exercise.ensures.write_fault)

pub returns-in-Some-Help-clause-files : goal.returns-in-Some-Help-clause-files
returns-in-Some-Help-clause-files g c =
    let is : command_of (map string_bytes c.args.words.now) ≡ Some Help = search rules in
    files_said _ _ is c.tell.result _ _ _ _ _ (text_files _ _ HELP.now c.tell.result _ _ _ c.tell.ensures.tells)

pub returns-in-Some-Help-clause-sink : goal.returns-in-Some-Help-clause-sink
returns-in-Some-Help-clause-sink g c =
    let is : command_of (map string_bytes c.args.words.now) ≡ Some Help = search rules in
    sink_said _ _ is c.tell.result _ _ _ _ _ _ _
    (sink_plain _ (told HELP.now) c.tell.result _ _ _ _ c.tell.ensures.end c.tell.ensures.written c.tell.ensures.count c.tell.ensures.write_fault)

pub returns-in-Some-Help-clause-sent : goal.returns-in-Some-Help-clause-sent
returns-in-Some-Help-clause-sent g c =
    let is : command_of (map string_bytes c.args.words.now) ≡ Some Help = search rules in
    sent_said _ _ is c.tell.result _ _ _ (sends_none _)

pub returns-in-Some-Version-clause-files : goal.returns-in-Some-Version-clause-files
returns-in-Some-Version-clause-files g c =
    let is : command_of (map string_bytes c.args.words.now) ≡ Some Version = search rules in
    files_said _ _ is c.tell-in-Some-Version.result _ _ _ _ _ (text_files _ _ VERSION.now c.tell-in-Some-Version.result _ _ _ c.tell-in-Some-Version.ensures.tells)
