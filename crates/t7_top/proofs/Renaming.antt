-- An outcome whose moments are among those of all commands.
use Rattle.std.proofs.Common.{ℕ, List, [], ◌∷◌, Err, map, sym, ◌∙◌, ap}
use Rattle.std.proofs.lemmas.List.{map-append}
use Rattle.t7_outcome.specs.declared.ending.Stop.TheVariants.{ReadFault, WriteFault, NetFault, Memory}
use Rattle.t7_outcome.specs.Ending.{Ended}
use Rattle.t7_outcome.specs.Outcome.{Ends, Fronts, Outcome, Part, Says, Shows, Spelled, Wrote}
use Rattle.t7_top.specs.Moments.{outcome_as, part_as}

module _ {A B : Type 0} (name : A → B) where
  pub ends_as : (plain : Outcome A) (ended : Ended) → Ends plain ended → Ends (outcome_as name plain) ended
  ends_as plain (Err ReadFault) end = tt
  ends_as plain (Err WriteFault) end = tt
  ends_as plain (Err NetFault) end = tt
  ends_as plain (Err Memory) end = tt
  ends_as plain ended end = end

  module _ (Shown : A → List (List ℕ) → Type 0) (Other : B → List (List ℕ) → Type 0) (each : (moment : A) (lines : List (List ℕ)) → Shown moment lines → Other (name moment) lines) where
    spelled_as : (parts : List (Part A)) (lines : List (List ℕ)) → Spelled Shown parts lines → Spelled Other (map (part_as name) parts) lines
    spelled_as [] lines is = is
    spelled_as (Says line ∷ parts) lines is = (is.0, is.1, spelled_as parts is.0 is.2)
    spelled_as (Shows moment ∷ parts) lines is = (is.0, is.1, each moment is.0 is.2, is.3, spelled_as parts is.1 is.4)

    fronts_as : (parts : List (Part A)) (lines : List (List ℕ)) → Fronts Shown parts lines → Fronts Other (map (part_as name) parts) lines
    fronts_as parts lines front = record {
      done = map (part_as name) front.done;
      first = (map (part_as name) front.first.0, sym (map-append (part_as name) front.done front.first.0) ∙ ap (map (part_as name)) front.first.1);
      spelled = spelled_as front.done lines front.spelled;
    }

    pub wrote_as : (plain : Outcome A) (ended : Ended) (written : List ℕ) → Wrote Shown plain ended written → Wrote Other (outcome_as name plain) ended written
    wrote_as plain (Err WriteFault) written w = (w.0, fronts_as plain.parts w.0 w.1, w.2)
    wrote_as plain (Err ReadFault) written w = (w.0, w.1, fronts_as plain.parts w.0 w.2, w.3, w.4)
    wrote_as plain (Err NetFault) written w = (w.0, w.1, fronts_as plain.parts w.0 w.2, w.3, w.4)
    wrote_as plain (Err Memory) written w = (w.0, w.1, fronts_as plain.parts w.0 w.2, w.3, w.4)
    wrote_as plain ended written w = (w.0, spelled_as plain.parts w.0 w.1, w.2)
