-- A line that was played, and what was written of it.
use Rattle.std.proofs.Common.{◌≡◌, ℕ, List, [], Option, Result, Ok, Err, IfErr, OnErr, refl, sym, subst}
use Rattle.t7_base.specs.Outside.{Begins, Grew}
use Rattle.t7_base.proofs.Grown.{grew_as, grew_nothing}
use Rattle.t7_feed.specs.Arrivals.{Terms}
use Rattle.t7_outcome.specs.declared.ending.Stop.{Stop}
use Rattle.t7_outcome.specs.declared.ending.Stop.TheVariants.{Memory, Script, WriteFault}
use Rattle.t7_outcome.specs.Outcome.{Outcome, Wrote}
use Rattle.t7_outcome.specs.Steps.{Goes, LineStep, Stopped, StoppedAt, Stops, WentOn}
use Rattle.t7_outcome.proofs.Lines.{fronts_all, fronts_none}
use Rattle.t7_replay.specs.Following.{Follows}
use Rattle.t7_replay.specs.Kits.{Does, Kit, OfLine, Refuses, Stands}
use Rattle.t7_replay.specs.Reports.{IsReported, Moment}
use Rattle.t7_replay.specs.Steps.{OfPlay}
use Rattle.t7_replay.specs.World.{World}
use Rattle.t7_replay.proofs.Doing.{Act}

-- a line that was stopped before it printed
silent : (step : LineStep World Moment) (stop : Stop) → Stopped step stop → OfLine stop → StoppedAt IsReported step stop []
silent (Stops own) stop stopped of = refl
silent (Goes state parts) Memory stopped of = ([], [], fronts_none IsReported parts, ([], refl), refl)
silent (Goes state parts) WriteFault stopped of = absurd of
silent (Goes state parts) stop stopped of = absurd stopped

pub refused_at : (p : Option (List ℕ)) (step : Act) (kit : Kit) (stop : Stop) → Refuses step kit stop
    → (terms : Terms) (world : World) → Stands terms world kit → Follows terms world → Grew p p (StoppedAt IsReported (step terms world) stop)
refused_at p step kit stop refuses terms world stands follows =
    grew_nothing p (StoppedAt IsReported (step terms world) stop) (silent (step terms world) stop (refuses.stopped terms world stands) refuses.of_line)

pub of_play : (stop : Stop) → OfLine stop → OfPlay stop
of_play (Script row why) of = tt
of_play Memory of = tt
of_play stop of = absurd of

pub not_write : (stop : Stop) → stop ≡ WriteFault → OfLine stop → ⊥
not_write stop is of = subst OfLine is of

-- memory was wanting before the first line
pub nothing_at : (p : Option (List ℕ)) (plain : Outcome Moment) → Grew p p (Wrote IsReported plain (Err Memory))
nothing_at p plain = grew_nothing p (Wrote IsReported plain (Err Memory)) ([], [], fronts_none IsReported plain.parts, ([], refl), refl)

-- a line whose text was cut off
cut_off : (step : LineStep World Moment) (text added : List ℕ) → WentOn IsReported step text → Begins added text → StoppedAt IsReported step WriteFault added
cut_off (Goes state parts) text added wrote cut = (wrote.0, fronts_all IsReported parts wrote.0 wrote.1, subst (λ (l : List ℕ). Begins added l) wrote.2 cut)
cut_off (Stops own) text added wrote cut = absurd wrote

pub cut_at : {T : Type 0} (p q : Option (List ℕ)) (step : Act) (kit new : Kit) (text : List ℕ) (r : Result T Stop) → OnErr r (Grew p q (λ added. Begins added text))
    → IfErr r (λ stop. stop ≡ WriteFault) → Does step kit new text
    → IfErr r (λ stop. (terms : Terms) (world : World) → Stands terms world kit → Follows terms world → Grew p q (StoppedAt IsReported (step terms world) stop))
cut_at p q step kit new text (Ok x) cut only done = tt
cut_at p q step kit new text (Err stop) cut only done = λ terms world stands follows.
    subst (λ (s : Stop). Grew p q (StoppedAt IsReported (step terms world) s)) (sym only)
    (grew_as p q (λ added. Begins added text) (StoppedAt IsReported (step terms world) WriteFault) cut
    (λ added front. cut_off (step terms world) text added (done.wrote terms world stands follows) front))
