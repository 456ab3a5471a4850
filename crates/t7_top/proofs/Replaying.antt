-- The script of a replay.
use Rattle.std.proofs.Common.{◌≡◌, ◌≤◌, ℕ, List, [], ◌∷◌, Option, Some, None, IfSome, Result, Ok, Err, refl, sym, ◌∙◌, ap}
use Rattle.t7_base.specs.Outside.{Grew, Rose}
use Rattle.t7_base.proofs.Grown.{grew_as}
use Rattle.t7_feed.specs.Arrivals.{Terms}
use Rattle.t7_outcome.specs.declared.ending.Status.{Status}
use Rattle.t7_outcome.specs.declared.ending.Stop.{Stop}
use Rattle.t7_outcome.specs.declared.ending.Stop.TheVariants.{WriteFault}
use Rattle.t7_outcome.specs.Ending.{Ended}
use Rattle.t7_outcome.specs.Outcome.{Outcome, FileSet, Given, Where, Asked, Ends, Wrote, fetched, followed, taking}
use Rattle.t7_outcome.specs.Performing.{WroteSink}
use Rattle.t7_outcome.specs.Steps.{LineStep, Goes, Stops, stepped}
use Rattle.t7_outcome.proofs.Closing.{asked_all}
use Rattle.t7_replay.specs.Reports as script
use Rattle.t7_replay.specs.Script.{lines_of}
use Rattle.t7_replay.specs.Steps.{played, step_at}
use Rattle.t7_replay.specs.World.{World, new_world}
use Rattle.t7_top.specs.Jobs.{script_played}
use Rattle.t7_top.specs.Moments.{IsReported, Moment, OfScript}
use Rattle.t7_top.proofs.Reading.{Read, sink_behind, sink_plain, where_read}
use Rattle.t7_top.proofs.Renaming.{ends_as, wrote_as}

-- a script asks for no file
played_names : (terms : Terms) (world : World) (lines : List (List ℕ)) → (played terms world lines).names ≡ []
played_names terms world [] = refl
played_names terms world (line ∷ lines) = of_step (step_at terms world line) (λ after. played terms after lines) (λ after. played_names terms after lines)
  where
    of_step : (step : LineStep World script.Moment) (next : World → Outcome script.Moment) → ((after : World) → (next after).names ≡ []) → (stepped step next).names ≡ []
    of_step (Goes world parts) next none = none world
    of_step (Stops stop) next none = refl

-- the script was read whole
pub script_took : (o : Option FileSet) (a b : Option (List (List ℕ))) (terms : Terms) (name bytes : List ℕ) (answer : Status)
    → IfSome o (λ h. fetched name h ≡ Ok bytes) → Grew a b (λ ns. ns ≡ name ∷ []) → Where o (λ g. Grew a b (Asked (taking name g.files (script_played terms)) answer))
script_took None a b terms name bytes answer read grew = tt
script_took (Some h) a b terms name bytes answer read grew =
    let plain : Outcome Moment = taking name h (script_played terms) in
    grew_as a b (λ ns. ns ≡ name ∷ []) (Asked plain answer) grew
    (λ ns all. asked_all plain answer ns
    (all ∙ sym (ap (λ (r : Result (List ℕ) Stop). name ∷ (followed r (script_played terms)).names) read
    ∙ ap (λ (l : List (List ℕ)). name ∷ l) (played_names terms new_world (lines_of bytes)))))

-- what the sink got of it
pub script_sink : (o : Option FileSet) (p q : Option (List ℕ)) (terms : Terms) (name bytes : List ℕ) (ended : Ended) (n m : ℕ) → Read o name bytes
    → Ends (played terms new_world (lines_of bytes)) ended → Grew p q (Wrote script.IsReported (played terms new_world (lines_of bytes)) ended)
    → n ≤ m → (ended ≡ Err WriteFault → Rose n m) → WroteSink IsReported (λ g. taking name g.files (script_played terms)) ended o p q n m
script_sink o p q terms name bytes ended n m read ends wrote below fault =
    let plain : Outcome script.Moment = played terms new_world (lines_of bytes) in
    let later : Outcome Moment = script_played terms bytes in
    let whole : Given → Outcome Moment = λ (g : Given). taking name g.files (script_played terms) in
    sink_behind o whole (λ g. later) ended p q n m
    (where_read o name bytes (λ g. ((whole g).end ≡ later.end) × ((whole g).parts ≡ later.parts)) read
    (λ h is. (ap (λ (r : Result (List ℕ) Stop). (followed r (script_played terms)).end) is, ap (λ (r : Result (List ℕ) Stop). (followed r (script_played terms)).parts) is)))
    (sink_plain o later ended p q n m (ends_as OfScript plain ended ends)
    (grew_as p q (Wrote script.IsReported plain ended) (Wrote IsReported later ended) wrote
    (λ w one. wrote_as OfScript script.IsReported IsReported (λ moment lines shown. shown) plain ended w one)) below fault)
