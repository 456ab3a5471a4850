-- How the last line follows what a command wrote.
use Rattle.std.proofs.Common.{◌≡◌, ◌≢◌, ℕ, List, [], ◌++◌, Option, Some, None, Err, refl, sym, ◌∙◌, ap, subst}
use Rattle.std.proofs.lemmas.List.{append-nil}
use Rattle.std.specs.Option.{option_map}
use Rattle.t7_base.specs.Outside.{Begins, Grew}
use Rattle.t7_base.proofs.Grown.{grew_as, grew_then}
use Rattle.t7_outcome.specs.declared.ending.Status.{Status}
use Rattle.t7_outcome.specs.declared.ending.Status.TheVariants as status
use Rattle.t7_outcome.specs.declared.ending.Stop.TheVariants.{ReadFault, WriteFault, NetFault, Memory}
use Rattle.t7_outcome.specs.Ending.{Ended, status_of, last_lines}
use Rattle.t7_outcome.specs.Outcome.{Fronts, LinesThen, Outcome, Part, FileSet, Given, Where, WroteLines, text_of, own_last, Ends, Spelled, Wrote, Answers, Due, Printed, Asked, AskedOf, Closes, ClosesAs}
use Rattle.t7_outcome.proofs.Lines.{begins_after, begins_more, text_of-append}

abbrev memory_line : List (List ℕ)
memory_line = last_lines (Err Memory)

module _ {Moment : Type 0} (Shown : Moment → List (List ℕ) → Type 0) where
  -- the outcome's own end
  own_text : (plain : Outcome Moment) (ended : Ended) (written : List ℕ) → ((lines : List (List ℕ)) × Spelled Shown plain.parts lines × (written ≡ text_of lines))
      → plain.end ≡ Some ended
      → (lines : List (List ℕ)) × Spelled Shown plain.parts lines × (written ++ text_of (last_lines ended) ≡ text_of (lines ++ own_last plain.end))
  own_text plain ended written wrote is = (
    wrote.0,
    wrote.1,
    ap (λ (w : List ℕ). w ++ text_of (last_lines ended)) wrote.2
        ∙ sym (text_of-append wrote.0 (last_lines ended))
        ∙ ap (λ (e : Option Ended). text_of (wrote.0 ++ own_last e)) (sym is),
  )

  -- a last line behind whole lines
  lines_then : (parts : List (Part Moment)) (ended : Ended) (written : List ℕ) → WroteLines Shown parts written
      → LinesThen Shown parts ended (written ++ text_of (last_lines ended))
  lines_then parts ended written wrote = (
    wrote.0,
    wrote.1,
    wrote.2,
    wrote.3,
    ap (λ (w : List ℕ). w ++ text_of (last_lines ended)) wrote.4 ∙ sym (text_of-append wrote.1 (last_lines ended)),
  )

  due_own : (plain : Outcome Moment) (ended : Ended) (written : List ℕ) → ended ≢ Err WriteFault → Ends plain ended → Wrote Shown plain ended written
      → Due Shown plain (status_of ended) (written ++ text_of (last_lines ended))
  due_own plain (Err WriteFault) written uncut is wrote = absurd (uncut refl)
  due_own plain (Err ReadFault) written uncut is wrote = lines_then plain.parts (Err ReadFault) written wrote
  due_own plain (Err NetFault) written uncut is wrote = lines_then plain.parts (Err NetFault) written wrote
  due_own plain (Err Memory) written uncut is wrote = lines_then plain.parts (Err Memory) written wrote
  due_own plain ended written uncut is wrote = own_text plain ended written wrote is

  at_answer : (plain : Outcome Moment) (ended : Ended) (answer : Status) (written added : List ℕ) → ended ≢ Err WriteFault
      → Ends plain ended → Wrote Shown plain ended written → answer ≡ status_of ended → added ≡ text_of (last_lines ended) → Due Shown plain answer (written ++ added)
  at_answer plain ended answer written added uncut ends wrote is text =
      subst (λ (s : Status). Due Shown plain s (written ++ added)) (sym is)
      (subst (λ (l : List ℕ). Due Shown plain (status_of ended) (written ++ l)) (sym text) (due_own plain ended written uncut ends wrote))

  -- a last line behind what was written
  printed : (plain : Outcome Moment) (ended : Ended) (answer : Status) (written added : List ℕ) → ended ≢ Err WriteFault
      → Ends plain ended → ClosesAs ended answer → Wrote Shown plain ended written → Closes ended answer added → Printed Shown plain answer (written ++ added)
  printed plain ended status.WriteFault written added uncut ends closing wrote closes =
      (status_of ended, written ++ text_of (last_lines ended), due_own plain ended written uncut ends wrote, begins_after written added _ closes)
  printed plain ended answer written added uncut ends closing wrote closes = at_answer plain ended answer written added uncut ends wrote closing closes

  -- a write fault before the last line
  printed_cut : (plain : Outcome Moment) (written : List ℕ) → ((lines : List (List ℕ)) × Fronts Shown plain.parts lines × Begins written (text_of lines))
      → Printed Shown plain status.WriteFault written
  printed_cut plain written cut = (
    status.Memory,
    text_of (cut.0 ++ memory_line),
    (cut.0, cut.0, cut.1, ([], append-nil cut.0), refl),
    subst (λ (l : List ℕ). Begins written l) (sym (text_of-append cut.0 memory_line)) (begins_more written (text_of cut.0) (text_of memory_line) cut.2),
  )

-- the names at any answer begin those of the outcome
asked_begins : {Moment : Type 0} (plain : Outcome Moment) (answer : Status) (names : List (List ℕ)) → Asked plain answer names → Begins names plain.names
asked_begins plain status.ReadFault names asked = asked
asked_begins plain status.WriteFault names asked = asked
asked_begins plain status.Memory names asked = asked
asked_begins plain answer names asked = ([], append-nil names ∙ asked)

asked_of_begins : (named : List (List ℕ)) (answer : Status) (names : List (List ℕ)) → AskedOf named answer names → Begins names named
asked_of_begins named status.Done names asked = ([], append-nil names ∙ asked)
asked_of_begins named answer names asked = asked

-- the last line takes no file
asked_closed : {Moment : Type 0} (plain : Outcome Moment) (ended : Ended) (answer : Status) (names : List (List ℕ)) → ClosesAs ended answer → Asked plain (status_of ended) names → Asked plain answer names
asked_closed plain ended status.WriteFault names closing asked = asked_begins plain (status_of ended) names asked
asked_closed plain ended answer names closing asked = subst (λ (s : Status). Asked plain s names) (sym closing) asked

-- all names were taken
pub asked_all : {Moment : Type 0} (plain : Outcome Moment) (answer : Status) (names : List (List ℕ)) → names ≡ plain.names → Asked plain answer names
asked_all plain status.ReadFault names is = ([], append-nil names ∙ is)
asked_all plain status.WriteFault names is = ([], append-nil names ∙ is)
asked_all plain status.Memory names is = ([], append-nil names ∙ is)
asked_all plain answer names is = is

-- the last line takes no file, whatever the files hold
pub asked_of_closed : (ended : Ended) (answer : Status) (named names : List (List ℕ)) → ClosesAs ended answer → AskedOf named (status_of ended) names → AskedOf named answer names
asked_of_closed ended status.WriteFault named names closing asked = asked_of_begins named (status_of ended) names asked
asked_of_closed ended answer named names closing asked = subst (λ (s : Status). AskedOf named s names) (sym closing) asked

-- the answer of an outcome
answers_own : {Moment : Type 0} (plain : Outcome Moment) (ended : Ended) → Ends plain ended → Answers plain (status_of ended)
answers_own plain (Err ReadFault) end = tt
answers_own plain (Err WriteFault) end = tt
answers_own plain (Err NetFault) end = tt
answers_own plain (Err Memory) end = tt
answers_own plain ended end = ap (option_map status_of) end

answers : {Moment : Type 0} (plain : Outcome Moment) (ended : Ended) (answer : Status) → ClosesAs ended answer → Ends plain ended → Answers plain answer
answers plain ended status.WriteFault closing end = tt
answers plain ended answer closing end = subst (λ (s : Status). Answers plain s) (sym closing) (answers_own plain ended end)

-- The same where it is told what was given.

where_both : (o : Option FileSet) (P Q R : Given → Type 0) → Where o P → Where o Q → ((g : Given) → P g → Q g → R g) → Where o R
where_both None P Q R p q both = tt
where_both (Some held) P Q R p q both = both (record { files = held }) p q

pub told_printed : {Moment : Type 0} (Shown : Moment → List (List ℕ) → Type 0) (o : Option FileSet) (a b c : Option (List ℕ)) (plain : Given → Outcome Moment) (ended : Ended) (answer : Status) → ended ≢ Err WriteFault
    → Where o (λ g. Ends (plain g) ended) → Where o (λ g. Grew a b (Wrote Shown (plain g) ended)) → Grew b c (Closes ended answer) → ClosesAs ended answer
    → Where o (λ g. Grew a c (Printed Shown (plain g) answer))
told_printed Shown o a b c plain ended answer uncut ends wrote closes closing =
    where_both o (λ g. Ends (plain g) ended) (λ g. Grew a b (Wrote Shown (plain g) ended)) (λ g. Grew a c (Printed Shown (plain g) answer)) ends wrote
    (λ g end front. grew_then a b c (Wrote Shown (plain g) ended) (Closes ended answer) (Printed Shown (plain g) answer) front closes
    (λ xs ys first last. printed Shown (plain g) ended answer xs ys uncut end closing first last))

pub told_printed_cut : {Moment : Type 0} (Shown : Moment → List (List ℕ) → Type 0) (o : Option FileSet) (a b : Option (List ℕ)) (plain : Given → Outcome Moment) (ended : Ended) → ended ≡ Err WriteFault
    → Where o (λ g. Grew a b (Wrote Shown (plain g) ended)) → Where o (λ g. Grew a b (Printed Shown (plain g) status.WriteFault))
told_printed_cut Shown o a b plain ended cut wrote =
    where_both o (λ g. Grew a b (Wrote Shown (plain g) ended)) (λ g. Grew a b (Wrote Shown (plain g) ended)) (λ g. Grew a b (Printed Shown (plain g) status.WriteFault)) wrote wrote
    (λ g front _. grew_as a b (Wrote Shown (plain g) ended) (Printed Shown (plain g) status.WriteFault) front
    (λ xs first. printed_cut Shown (plain g) xs (subst (λ (e : Ended). Wrote Shown (plain g) e xs) cut first)))

pub told_asked : {Moment : Type 0} (o : Option FileSet) (a b : Option (List (List ℕ))) (plain : Given → Outcome Moment) (ended : Ended) (answer : Status) → ClosesAs ended answer
    → Where o (λ g. Grew a b (Asked (plain g) (status_of ended))) → Where o (λ g. Grew a b (Asked (plain g) answer))
told_asked o a b plain ended answer closing asked =
    where_both o (λ g. Grew a b (Asked (plain g) (status_of ended))) (λ g. Grew a b (Asked (plain g) (status_of ended))) (λ g. Grew a b (Asked (plain g) answer)) asked asked
    (λ g front _. grew_as a b (Asked (plain g) (status_of ended)) (Asked (plain g) answer) front (λ names. asked_closed (plain g) ended answer names closing))

pub told_answer : {Moment : Type 0} (o : Option FileSet) (plain : Given → Outcome Moment) (ended : Ended) (answer : Status) → ClosesAs ended answer
    → Where o (λ g. Ends (plain g) ended) → Where o (λ g. Answers (plain g) answer)
told_answer o plain ended answer closing ends =
    where_both o (λ g. Ends (plain g) ended) (λ g. Ends (plain g) ended) (λ g. Answers (plain g) answer) ends ends (λ g end _. answers (plain g) ended answer closing end)
