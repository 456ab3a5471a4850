-- The jobs on the network, said of the job that the words are.
use Rattle.std.proofs.Common.{◌≡◌, ◌≤◌, ℕ, List, Option, None, Err, IfErr, reverse}
use Rattle.t7_base.specs.Outside.{Grew, Rose}
use Rattle.t7_feed.specs.Arrivals.{Terms}
use Rattle.t7_follow.specs.Following.{followed}
use Rattle.t7_follow.specs.Reports as member
use Rattle.t7_gather.specs.Clauses as gather
use Rattle.t7_gather.specs.Gathering.{client_of, report_at}
use Rattle.t7_gather.specs.Turns.{turns}
use Rattle.t7_outcome.specs.declared.ending.Stop.TheVariants.{WriteFault}
use Rattle.t7_outcome.specs.Ending.{Ended}
use Rattle.t7_outcome.specs.Outcome.{Ends, FileSet, Wrote}
use Rattle.t7_outcome.specs.Performing.{WroteSink}
use Rattle.t7_serve.specs.Clauses.{CastAt, OfServe, OfTakings, SentAt}
use Rattle.t7_serve.specs.Served.{done_by, served}
use Rattle.t7_top.specs.Jobs.{started}
use Rattle.t7_top.specs.Moments.{IsReported}
use Rattle.t7_top.specs.Network.{JobTook, Network}
use Rattle.t7_top.specs.Using.{SentOrNot}
use Rattle.t7_top.specs.Words.{Exchange, Feeds, Gather, Job, Member}
use Rattle.t7_top.proofs.Following.{member_sink}
use Rattle.t7_top.proofs.Gathering.{Undialed, gathered_sent, gathered_sink}
use Rattle.t7_top.proofs.Performing.{job_sent, job_sink}
use Rattle.t7_top.proofs.Serving.{served_sent, served_sink}

module _ (job : Job) (terms : Terms) (ended : Ended) (o : Option FileSet) (old new : Network) where
  pub exchange_sink : (listen : List ℕ) (feeds : Feeds) (count : ℕ) (p : Option (List ℕ)) (n : ℕ) → job ≡ Exchange listen feeds count
      → OfTakings old.events new.events old.moments new.moments (λ taken. Ends (served {Moment = Unit {0}} terms count taken) ended) → IfErr ended OfServe
      → JobTook job old new (λ taken. WroteSink IsReported (started terms job taken) ended o p p n n)
  exchange_sink listen feeds count p n is ends of =
      job_sink job (Exchange listen feeds count) is terms ended o old new p p n n (served_sink o old new terms listen feeds count ended p n ends of)

  pub exchange_sent : (listen : List ℕ) (feeds : Feeds) (count : ℕ) → job ≡ Exchange listen feeds count
      → OfTakings old.events new.events old.moments new.moments (λ taken. Grew old.sent new.sent (SentAt (done_by terms taken).sent ended))
      → OfTakings old.events new.events old.moments new.moments (λ taken. Grew old.cast new.cast (CastAt (done_by terms taken).cast ended))
      → JobTook job old new (λ taken. SentOrNot terms job taken ended old new)
  exchange_sent listen feeds count is sent cast =
      job_sent job (Exchange listen feeds count) is terms ended o old new (served_sent old new terms listen feeds count ended sent cast)

  pub follower_sink : (feeds : Feeds) (count : ℕ) (p q : Option (List ℕ)) (n m : ℕ) → job ≡ Member feeds count
      → Grew old.receipts new.receipts (λ receipts. Ends (followed terms count (reverse receipts)) ended)
      → Grew old.receipts new.receipts (λ receipts. Grew p q (Wrote member.IsReported (followed terms count (reverse receipts)) ended))
      → n ≤ m → (ended ≡ Err WriteFault → Rose n m) → JobTook job old new (λ taken. WroteSink IsReported (started terms job taken) ended o p q n m)
  follower_sink feeds count p q n m is ends wrote below fault =
      job_sink job (Member feeds count) is terms ended o old new p q n m (member_sink o old new terms feeds count ended p q n m ends wrote below fault)

  module _ (address : List ℕ) (session count : ℕ) (p q : Option (List ℕ)) (is : job ≡ Gather address session count)
      (none : Grew old.asked new.asked (λ asks. gather.conn_of asks ≡ None → Undialed ended old.events new.events old.sent new.sent p q)) where
    pub gatherer_sink : (n m : ℕ) → n ≤ m → (ended ≡ Err WriteFault → Rose n m)
        → gather.OnDial old.asked new.asked old.events new.events (λ conn events. gather.EndsBy count conn (client_of terms.layouts session) events ended)
        → gather.OnDial old.asked new.asked old.events new.events
        (λ conn events. Grew p q (gather.WroteBy (report_at conn (client_of terms.layouts session) events) ended))
        → JobTook job old new (λ taken. WroteSink IsReported (started terms job taken) ended o p q n m)
    gatherer_sink n m below fault ends wrote =
        job_sink job (Gather address session count) is terms ended o old new p q n m
        (gathered_sink o old new terms address session count ended p q n m below fault ends wrote none)

    pub gatherer_sent : gather.OnDial old.asked new.asked old.events new.events
        (λ conn events. gather.TakesUpTo count conn (client_of terms.layouts session) events)
        → gather.OnDial old.asked new.asked old.events new.events
        (λ conn events. Grew old.sent new.sent (gather.SentBy conn (turns conn (client_of terms.layouts session) events).sent ended))
        → JobTook job old new (λ taken. SentOrNot terms job taken ended old new)
    gatherer_sent takes sent =
        job_sent job (Gather address session count) is terms ended o old new (gathered_sent old new terms address session count ended p q takes sent none)
