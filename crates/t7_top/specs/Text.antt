-- `--help` and `--version`: a text and no line behind it.
use Rattle.std.specs.Prelude.{◌≡◌, ℕ, List, [], ◌∷◌, ◌++◌, Option, Some, Ok, Err}
use Rattle.t7_base.specs.Outside.{Begins, Grew}
use Rattle.t7_outcome.specs.declared.ending.Finish.TheVariants.{Text}
use Rattle.t7_outcome.specs.declared.ending.Status.{Status}
use Rattle.t7_outcome.specs.declared.ending.Status.TheVariants as status
use Rattle.t7_outcome.specs.declared.ending.Stop.TheVariants.{WriteFault}
use Rattle.t7_outcome.specs.Ending.{Ended}
use Rattle.t7_outcome.specs.Outcome.{Outcome, Says}
use Rattle.t7_top.specs.Moments.{Moment}

-- the text with a line feed behind it is printed, and nothing more
abbrev pub told : List ℕ → Outcome Moment
told text = record { names = []; parts = Says text ∷ []; end = Some (Ok Text) }

-- The text was printed whole, or a write fault cut it off, whatever else is held.
abbrev pub Tells : List ℕ → Ended → Option (List ℕ) → Option (List ℕ) → Type 0
Tells text (Ok Text) before now = Grew before now (λ added. added ≡ text ++ 10 ∷ [])
Tells text (Err WriteFault) before now = Grew before now (λ added. Begins added (text ++ 10 ∷ []))
Tells text _ before now = ⊥

-- The same of a run: the answer is Done, or a write fault.
abbrev pub Told : List ℕ → Status → Option (List ℕ) → Option (List ℕ) → Type 0
Told text status.Done before now = Grew before now (λ added. added ≡ text ++ 10 ∷ [])
Told text status.WriteFault before now = Grew before now (λ added. Begins added (text ++ 10 ∷ []))
Told text _ before now = ⊥
