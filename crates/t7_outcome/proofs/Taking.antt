-- The files that a command takes, one after another.
use Rattle.std.proofs.Common.{◌≡◌, ℕ, List, [], ◌∷◌, ◌++◌, Option, None, Some, IfSome, Result, Err, refl, sym, ◌∙◌, ap, subst, append_assoc, arith}
use Rattle.t7_base.specs.Outside.{Begins, Grew}
use Rattle.t7_base.proofs.Grown.{grew_nothing, grew_then}
use Rattle.t7_outcome.specs.declared.ending.Status.{Status}
use Rattle.t7_outcome.specs.declared.ending.Stop.{Stop}
use Rattle.t7_outcome.specs.declared.ending.Stop.TheVariants.{ReadFault, WriteFault, TooLong, Memory}
use Rattle.t7_outcome.specs.declared.ending.Finish.{Finish}
use Rattle.t7_outcome.specs.Ending.{status_of}
use Rattle.t7_outcome.specs.Performing.{WroteSink}
use Rattle.t7_outcome.specs.Outcome.{Outcome, FileSet, Given, Where, OfFetch, Asked, Ends, Spelled, Wrote, fetched, followed, taking}
use Rattle.t7_outcome.proofs.Closing.{asked_all}
use Rattle.t7_outcome.proofs.Lines.{fronts_none}

-- a file that is not read whole ends the run before a line is written
pub wrote_missed : {Moment : Type 0} (Shown : Moment → List (List ℕ) → Type 0) (name : List ℕ) (held : FileSet) (next : List ℕ → Outcome Moment) (stop : Stop) → OfFetch stop
    → (stop ≡ TooLong → fetched name held ≡ Err TooLong) → Wrote Shown (taking name held next) (Err stop) []
wrote_missed Shown name held next ReadFault of long = ([], [], fronts_none Shown (taking name held next).parts, ([], refl), refl)
wrote_missed {Moment} Shown name held next TooLong of long =
    ([], subst (λ (r : Result (List ℕ) Stop). Spelled Shown (followed r next).parts []) (sym (long refl)) refl, refl)
wrote_missed Shown name held next Memory of long = ([], [], fronts_none Shown (taking name held next).parts, ([], refl), refl)
wrote_missed Shown name held next stop of long = absurd of

front : (before : List (List ℕ)) (name : List ℕ) (after all : List (List ℕ)) → all ≡ before ++ name ∷ after → Begins (before ++ name ∷ []) all
front before name after all is = (after, append_assoc before (name ∷ []) after ∙ sym is)

-- it is the last that is asked for
pub asked_missed : {Moment : Type 0} (plain : Outcome Moment) (before : List (List ℕ)) (name : List ℕ) (held : FileSet) (next : List ℕ → Outcome Moment) (stop : Stop) → OfFetch stop
    → (stop ≡ TooLong → fetched name held ≡ Err TooLong) → plain.names ≡ before ++ (taking name held next).names → Asked plain (status_of (Err stop)) (before ++ name ∷ [])
asked_missed plain before name held next ReadFault of long is = front before name (followed (fetched name held) next).names plain.names is
asked_missed plain before name held next TooLong of long is =
    sym (is ∙ ap (λ (r : Result (List ℕ) Stop). before ++ name ∷ (followed r next).names) (long refl))
asked_missed plain before name held next Memory of long is = front before name (followed (fetched name held) next).names plain.names is
asked_missed plain before name held next stop of long is = absurd of

-- a command that asks for no file
pub took_none : {Moment : Type 0} (o : Option FileSet) (a : Option (List (List ℕ))) (plain : Given → Outcome Moment) (answer : Status) → ((g : Given) → (plain g).names ≡ [])
    → Where o (λ g. Grew a a (Asked (plain g) answer))
took_none None a plain answer none = tt
took_none (Some held) a plain answer none =
    let g : Given = record { files = held } in
    grew_nothing a (Asked (plain g) answer) (asked_all (plain g) answer [] (sym (none g)))

-- two files, and three
pub took_two : (a b c : Option (List (List ℕ))) (first second : List ℕ) → Grew a b (λ ns. ns ≡ first ∷ []) → Grew b c (λ ns. ns ≡ second ∷ [])
    → Grew a c (λ ns. ns ≡ first ∷ second ∷ [])
took_two a b c first second one two =
    grew_then a b c (λ ns. ns ≡ first ∷ []) (λ ns. ns ≡ second ∷ []) (λ ns. ns ≡ first ∷ second ∷ []) one two
    (λ xs ys x y. ap (λ (l : List (List ℕ)). l ++ ys) x ∙ ap (λ (l : List (List ℕ)). first ∷ l) y)

pub took_three : (a b c d : Option (List (List ℕ))) (first second third : List ℕ) → Grew a b (λ ns. ns ≡ first ∷ []) → Grew b c (λ ns. ns ≡ second ∷ [])
    → Grew c d (λ ns. ns ≡ third ∷ []) → Grew a d (λ ns. ns ≡ first ∷ second ∷ third ∷ [])
took_three a b c d first second third one two three =
    grew_then a c d (λ ns. ns ≡ first ∷ second ∷ []) (λ ns. ns ≡ third ∷ []) (λ ns. ns ≡ first ∷ second ∷ third ∷ []) (took_two a b c first second one two) three
    (λ xs ys x y. ap (λ (l : List (List ℕ)). l ++ ys) x ∙ ap (λ (l : List (List ℕ)). first ∷ second ∷ l) y)

-- What the sink got of a command that is stopped at a file, and that a fault is answered only where the count rose.
pub sink_missed : {Moment : Type 0} (Shown : Moment → List (List ℕ) → Type 0) (o : Option FileSet) (p : Option (List ℕ)) (name : List ℕ) (next : Given → List ℕ → Outcome Moment) (stop : Stop) (n : ℕ)
    → OfFetch stop → (stop ≡ TooLong → IfSome o (λ held. fetched name held ≡ Err TooLong))
    → WroteSink Shown (λ g. taking name g.files (next g)) (Err stop) o p p n n
sink_missed {Moment} Shown o p name next stop n of long =
    record { end = ends_missed o stop of long; wrote = grew_missed o stop of long; count = omega arith; fault = λ is. absurd (no_write stop of is) }
  where
    ends_missed : (o : Option FileSet) (stop : Stop) → OfFetch stop → (stop ≡ TooLong → IfSome o (λ held. fetched name held ≡ Err TooLong))
        → Where o (λ g. Ends (taking name g.files (next g)) (Err stop))
    ends_missed None stop of long = tt
    ends_missed (Some held) ReadFault of long = tt
    ends_missed (Some held) TooLong of long = ap (λ (r : Result (List ℕ) Stop). (followed r (next (record { files = held }))).end) (long refl)
    ends_missed (Some held) Memory of long = tt
    ends_missed (Some held) stop of long = absurd of

    grew_missed : (o : Option FileSet) (stop : Stop) → OfFetch stop → (stop ≡ TooLong → IfSome o (λ held. fetched name held ≡ Err TooLong))
        → Where o (λ g. Grew p p (Wrote Shown (taking name g.files (next g)) (Err stop)))
    grew_missed None stop of long = tt
    grew_missed (Some held) stop of long =
        let g : Given = record { files = held } in
        grew_nothing p (Wrote Shown (taking name held (next g)) (Err stop)) (wrote_missed Shown name held (next g) stop of long)

    no_write : (stop : Stop) → OfFetch stop → (let bad : Result Finish Stop = Err stop in bad) ≡ Err WriteFault → ⊥
    no_write ReadFault of is = cc
    no_write TooLong of is = cc
    no_write Memory of is = cc
    no_write stop of is = absurd of
