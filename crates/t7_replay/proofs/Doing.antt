-- Steps that are done, and steps that stop.
use Rattle.std.proofs.Common.{◌≡◌, ℕ, List, Result, Ok, Err, IfErr, IfOk, sym, ap, subst}
use Rattle.t7_outcome.specs.declared.ending.Stop.{Stop}
use Rattle.t7_outcome.specs.declared.ending.Stop.TheVariants.{Memory, Script}
use Rattle.t7_outcome.specs.declared.ending.ScriptWhy.{ScriptWhy}
use Rattle.t7_outcome.specs.Outcome.{says, text_of}
use Rattle.t7_outcome.specs.Steps.{Goes, GoesTo, LineStep, Stopped, Stops, WentOn}
use Rattle.t7_outcome.proofs.Lines.{spelled_says}
use Rattle.t7_feed.specs.Arrivals.{Terms}
use Rattle.t7_replay.specs.Kits.{Does, Enters, Kit, OfLine, Refuses, Stands}
use Rattle.t7_replay.specs.Reports.{IsReported, Moment}
use Rattle.t7_replay.specs.World.{World}

-- a step of each world
abbrev pub Act : Type 0
Act = Terms → World → LineStep World Moment

-- the same step, where the program stands
pub does_as : (step other : Act) (old new : Kit) (text : List ℕ) → ((terms : Terms) (world : World) → Stands terms world old → step terms world ≡ other terms world)
    → Does step old new text → Does other old new text
does_as step other old new text same does = record {
  went = λ terms world stands. subst (λ (s : LineStep World Moment). GoesTo s (λ after. Stands terms after new)) (same terms world stands) (does.went terms world stands);
  wrote = λ terms world stands follows. subst (λ (s : LineStep World Moment). WentOn IsReported s text) (same terms world stands) (does.wrote terms world stands follows);
}

pub enters_as : (step other : Act) (old new : Kit) (text : List ℕ) → ((terms : Terms) (world : World) → Stands terms world old → step terms world ≡ other terms world)
    → Enters step old new text → Does other old new text
enters_as step other old new text same does = record {
  went = λ terms world stands. subst (λ (s : LineStep World Moment). GoesTo s (λ after. Stands terms after new)) (same terms world stands) (does.went terms world stands);
  wrote = λ terms world stands follows. subst (λ (s : LineStep World Moment). WentOn IsReported s text) (same terms world stands)
      (does.wrote terms world stands);
}

-- a step that leads to a world and prints lines
pub does_says : (step : Act) (after : Terms → World → World) (lines : Terms → World → List (List ℕ)) (old new : Kit) (text : List ℕ)
    → ((terms : Terms) (world : World) → Stands terms world old → step terms world ≡ Goes (after terms world) (says (lines terms world)))
    → ((terms : Terms) (world : World) → Stands terms world old → Stands terms (after terms world) new)
    → ((terms : Terms) (world : World) → Stands terms world old → text ≡ text_of (lines terms world))
    → Does step old new text
does_says step after lines old new text is stands said = record {
  went = λ terms world in_world. subst (λ (s : LineStep World Moment). GoesTo s (λ now. Stands terms now new)) (sym (is terms world in_world)) (stands terms world in_world);
  wrote = λ terms world in_world follows. subst (λ (s : LineStep World Moment). WentOn IsReported s text) (sym (is terms world in_world))
      (lines terms world, spelled_says IsReported (lines terms world), said terms world in_world);
}

-- want of memory
pub refuses_memory : (step : Act) (old : Kit) (stop : Stop) → stop ≡ Memory → Refuses step old stop
refuses_memory step old stop is = record {
  stopped = λ terms world stands. subst (λ (s : Stop). Stopped (step terms world) s) (sym is) tt;
  of_line = subst OfLine (sym is) tt;
}

-- a fault of the line
pub refuses_line : (step : Act) (old : Kit) (why : ScriptWhy) (stop : Stop) → stop ≡ Script old.row why
    → ((terms : Terms) (world : World) → Stands terms world old → step terms world ≡ Stops (Script world.row why)) → Refuses step old stop
refuses_line step old why stop is same = record {
  stopped = λ terms world stands. subst (λ (s : Stop). Stopped (step terms world) s) (sym is)
      (subst (λ (s : LineStep World Moment). Stopped s (Script old.row why)) (sym (same terms world stands)) (ap (λ (n : ℕ). Script n why) stands.row));
  of_line = subst OfLine (sym is) tt;
}

-- The same of a call's answer.
pub all_memory : {T : Type 0} (step : Act) (old : Kit) (r : Result T Stop) → IfErr r (λ stop. stop ≡ Memory) → IfErr r (Refuses step old)
all_memory step old (Ok x) only = tt
all_memory step old (Err stop) only = refuses_memory step old stop only

pub all_as : {T : Type 0} (items : T → List ℕ) (step other : Act) (old new : Kit) (r : Result T Stop)
    → ((terms : Terms) (world : World) → Stands terms world old → step terms world ≡ other terms world)
    → IfOk r (λ text. Does step old new (items text)) → IfOk r (λ text. Does other old new (items text))
all_as items step other old new (Ok x) same does = does_as step other old new (items x) same does
all_as items step other old new (Err stop) same does = tt

-- an event that was entered after this, of which the answer speaks
pub all_at : {T A B : Type 0} (P : T → A → B → Type 0) (a : A) (b : B) (r : Result T Stop) → IfOk r (λ text. (a : A) (b : B) → P text a b) → IfOk r (λ text. P text a b)
all_at P a b (Ok x) all = all a b
all_at P a b (Err stop) all = tt
