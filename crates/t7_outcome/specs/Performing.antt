-- How a command was performed, before its last line: a record for each object of the outside.
use Rattle.std.specs.Prelude.{◌≡◌, ℕ, ◌≤◌, List, Option, Err}
use Rattle.t7_base.specs.Outside.{Grew, Rose}
use Rattle.t7_outcome.specs.declared.ending.Stop.TheVariants.{ReadFault, WriteFault}
use Rattle.t7_outcome.specs.Ending.{Ended, status_of}
use Rattle.t7_outcome.specs.Outcome.{Asked, AskedOf, Ends, Given, FileSet, Outcome, Where, Wrote}

-- The files: the names that were taken are the outcome's; whatever the files hold, they begin those that the command names, and are
-- all of them at its end; and the count rose where a fault is answered.
pub record TookFiles {Moment : Type 0} (plain : Given → Outcome Moment) (named : List (List ℕ)) (ended : Ended) (held : Option FileSet)
    (before now : Option (List (List ℕ))) (faults faults_now : ℕ) : Type 0 where
  pub took : Where held (λ given. Grew before now (Asked (plain given) (status_of ended)))
  pub asked : Grew before now (AskedOf named (status_of ended))
  pub count : faults ≤ faults_now
  pub fault : ended ≡ Err ReadFault → Rose faults faults_now

-- The sink: the text of the outcome was written, and the count rose where a fault is answered.
pub record WroteSink {Moment : Type 0} (Shown : Moment → List (List ℕ) → Type 0) (plain : Given → Outcome Moment) (ended : Ended) (held : Option FileSet)
    (before now : Option (List ℕ)) (faults faults_now : ℕ) : Type 0 where
  pub end : Where held (λ given. Ends (plain given) ended)
  pub wrote : Where held (λ given. Grew before now (Wrote Shown (plain given) ended))
  pub count : faults ≤ faults_now
  pub fault : ended ≡ Err WriteFault → Rose faults faults_now
