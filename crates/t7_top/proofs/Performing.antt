-- What holds of the command that the words are, said of the words.
use Rattle.std.proofs.Common.{◌≡◌, ◌≢◌, inl, ℕ, List, Option, None, Some, Err, IfErr, sym, subst}
use Rattle.t7_base.specs.Outside.{Grew}
use Rattle.t7_outcome.specs.declared.ending.Status.{Status}
use Rattle.t7_outcome.specs.declared.ending.Status.TheVariants as status
use Rattle.t7_feed.specs.Arrivals.{Terms}
use Rattle.t7_outcome.specs.declared.ending.Stop.{Stop}
use Rattle.t7_outcome.specs.declared.ending.Stop.TheVariants.{ReadFault, WriteFault}
use Rattle.t7_outcome.specs.Ending.{Ended, status_of}
use Rattle.t7_outcome.specs.Outcome.{Answers, Closes, ClosesAs, FileSet, Printed, Where}
use Rattle.t7_outcome.specs.Performing.{TookFiles, WroteSink}
use Rattle.t7_outcome.proofs.Closing.{told_answer, told_printed, told_printed_cut}
use Rattle.t7_top.specs.Answers.{MayAnswer}
use Rattle.t7_top.specs.Jobs.{started}
use Rattle.t7_top.specs.Moments.{IsReported}
use Rattle.t7_top.specs.Network.{JobTook, Network, Took, no_intake}
use Rattle.t7_top.specs.Outcomes.{outcome_of}
use Rattle.t7_top.specs.Using.{Sent, SentBy, SentOrNot, UsedBy}
use Rattle.t7_top.specs.Words.{Invocation, Job, files_of, scripts_of}
use Rattle.t7_top.proofs.Intake.{job_as, took_as}

module _ (command other : Option Invocation) (is : command ≡ other) (ended : Ended) (o : Option FileSet) where
  pub files_said : (a b : Option (List (List ℕ))) (n m : ℕ) → TookFiles (outcome_of other no_intake) (files_of other) ended o a b n m
      → TookFiles (outcome_of command no_intake) (files_of command) ended o a b n m
  files_said a b n m took = subst (λ (c : Option Invocation). TookFiles (outcome_of c no_intake) (files_of c) ended o a b n m) (sym is) took

  pub sink_said : (old new : Network) (p q : Option (List ℕ)) (n m : ℕ) → Took other old new (λ taken. WroteSink IsReported (outcome_of other taken) ended o p q n m)
      → Took command old new (λ taken. WroteSink IsReported (outcome_of command taken) ended o p q n m)
  sink_said old new p q n m sink =
      subst (λ (c : Option Invocation). Took c old new (λ taken. WroteSink IsReported (outcome_of c taken) ended o p q n m)) (sym is) sink

  pub network_said : (old new : Network) → UsedBy other ended old new → UsedBy command ended old new
  network_said old new used = subst (λ (c : Option Invocation). UsedBy c ended old new) (sym is) used

  pub sent_said : (old new : Network) → Took other old new (λ taken. Where o (λ given. SentBy other given.files taken ended old new))
      → Took command old new (λ taken. Where o (λ given. SentBy command given.files taken ended old new))
  sent_said old new sent =
      subst (λ (c : Option Invocation). Took c old new (λ taken. Where o (λ given. SentBy c given.files taken ended old new))) (sym is) sent

  pub gives_said : MayAnswer other (status_of ended) → MayAnswer command (status_of ended)
  gives_said may = subst (λ (c : Option Invocation). MayAnswer c (status_of ended)) (sym is) may

-- what a run answers and prints
module _ (command : Option Invocation) (old new : Network) (ended : Ended) (o : Option FileSet) (p q : Option (List ℕ)) (n m : ℕ)
    (sink : Took command old new (λ taken. WroteSink IsReported (outcome_of command taken) ended o p q n m)) where
  pub answered : (answer : Status) → ClosesAs ended answer → Took command old new (λ taken. Where o (λ given. Answers (outcome_of command taken given) answer))
  answered answer closing =
      took_as command old new (λ taken. WroteSink IsReported (outcome_of command taken) ended o p q n m)
      (λ taken. Where o (λ given. Answers (outcome_of command taken given) answer)) sink
      (λ taken one. told_answer o (outcome_of command taken) ended answer closing one.end)

  pub printed : (r : Option (List ℕ)) (answer : Status) → ended ≢ Err WriteFault → Grew q r (Closes ended answer) → ClosesAs ended answer
      → Took command old new (λ taken. Where o (λ given. Grew p r (Printed IsReported (outcome_of command taken given) answer)))
  printed r answer uncut closes closing =
      took_as command old new (λ taken. WroteSink IsReported (outcome_of command taken) ended o p q n m)
      (λ taken. Where o (λ given. Grew p r (Printed IsReported (outcome_of command taken given) answer))) sink
      (λ taken one. told_printed IsReported o p q r (outcome_of command taken) ended answer uncut one.end one.wrote closes closing)

  pub printed_cut : ended ≡ Err WriteFault → Took command old new (λ taken. Where o (λ given. Grew p q (Printed IsReported (outcome_of command taken given) status.WriteFault)))
  printed_cut cut =
      took_as command old new (λ taken. WroteSink IsReported (outcome_of command taken) ended o p q n m)
      (λ taken. Where o (λ given. Grew p q (Printed IsReported (outcome_of command taken given) status.WriteFault))) sink
      (λ taken one. told_printed_cut IsReported o p q (outcome_of command taken) ended cut one.wrote)

-- The same of the job that the words are.
module _ (job other : Job) (is : job ≡ other) (terms : Terms) (ended : Ended) (o : Option FileSet) where
  pub job_files : (a b : Option (List (List ℕ))) (n m : ℕ) → TookFiles (started terms other no_intake) (scripts_of other) ended o a b n m
      → TookFiles (started terms job no_intake) (scripts_of job) ended o a b n m
  job_files a b n m took = subst (λ (j : Job). TookFiles (started terms j no_intake) (scripts_of j) ended o a b n m) (sym is) took

  pub job_sink : (old new : Network) (p q : Option (List ℕ)) (n m : ℕ) → JobTook other old new (λ taken. WroteSink IsReported (started terms other taken) ended o p q n m)
      → JobTook job old new (λ taken. WroteSink IsReported (started terms job taken) ended o p q n m)
  job_sink old new p q n m sink =
      subst (λ (j : Job). JobTook j old new (λ taken. WroteSink IsReported (started terms j taken) ended o p q n m)) (sym is) sink

  pub job_sent : (old new : Network) → JobTook other old new (λ taken. Sent terms other taken ended old new)
      → JobTook job old new (λ taken. SentOrNot terms job taken ended old new)
  job_sent old new sent =
      subst (λ (j : Job). JobTook j old new (λ taken. SentOrNot terms j taken ended old new)) (sym is)
      (job_as other old new (λ taken. Sent terms other taken ended old new) (λ taken. SentOrNot terms other taken ended old new) sent (λ taken one. inl one))

-- a stop that isn't among those of a job
pub no_read : (P : Stop → Type 0) (ended : Ended) → (P ReadFault → ⊥) → IfErr ended P → ended ≢ Err ReadFault
no_read P ended not of = λ is. not (subst (λ (e : Ended). IfErr e P) is of)

-- a command that sends nothing
pub sends_none : (o : Option FileSet) → Where o (λ given. Unit {0})
sends_none None = tt
sends_none (Some held) = tt
