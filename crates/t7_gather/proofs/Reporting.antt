-- What was written, in the terms of outcomes whose reports are any; how it ended is the same for each of them.
use Rattle.std.proofs.Common.{◌≡◌, ℕ, List, [], Ok, Err, refl, sym, subst}
use Rattle.std.proofs.lemmas.List.{append-nil}
use Rattle.t7_client.specs.Recovering.{Recovery}
use Rattle.t7_net.specs.declared.link.LinkItem.{LinkItem}
use Rattle.t7_outcome.specs.declared.ending.Stop.TheVariants.{Memory, NetFault, ReadFault, WriteFault}
use Rattle.t7_outcome.specs.Ending.{Ended}
use Rattle.t7_outcome.specs.Outcome.{Fronts, Outcome, Part, Spelled, Wrote, says}
use Rattle.t7_outcome.proofs.Lines.{fronts_all, fronts_none, spelled_says}
use Rattle.t7_gather.specs.Clauses.{WroteBy}
use Rattle.t7_gather.specs.Gathering.{gathered, report_at}

module _ {Moment : Type 0} (Shown : Moment → List (List ℕ) → Type 0) where
  fronts : (plain : Outcome Moment) (due : List (List ℕ)) → plain.parts ≡ says due → Fronts Shown plain.parts due
  fronts plain due is =
      subst (λ (l : List (Part Moment)). Fronts Shown l due) (sym is) (fronts_all Shown (says due) due (spelled_says Shown due))

  -- lines that are said are the lines of such an outcome
  wrote_says : (plain : Outcome Moment) (due : List (List ℕ)) (ended : Ended) (written : List ℕ) → plain.parts ≡ says due → WroteBy due ended written
      → Wrote Shown plain ended written
  wrote_says plain due (Ok finish) written is wrote = (due, subst (λ (l : List (Part Moment)). Spelled Shown l due) (sym is) (spelled_says Shown due), wrote)
  wrote_says plain due (Err WriteFault) written is wrote = (due, fronts plain due is, wrote)
  wrote_says plain due (Err NetFault) written is wrote = ([], [], fronts_none Shown plain.parts, ([], refl), wrote)
  wrote_says plain due (Err Memory) written is wrote = ([], [], fronts_none Shown plain.parts, ([], refl), wrote)
  wrote_says plain due (Err ReadFault) written is wrote = (due, due, fronts plain due is, ([], append-nil due), wrote)
  wrote_says plain due (Err stop) written is wrote = (due, subst (λ (l : List (Part Moment)). Spelled Shown l due) (sym is) (spelled_says Shown due), wrote)

  -- what was written is that of what it comes to
  pub wrote_gathered : (count conn : ℕ) (client : Recovery) (events : List LinkItem) (ended : Ended) (written : List ℕ)
      → WroteBy (report_at conn client events) ended written
      → Wrote Shown (gathered count conn client events) ended written
  wrote_gathered count conn client events ended written wrote =
      wrote_says (gathered count conn client events) (report_at conn client events) ended written refl wrote
