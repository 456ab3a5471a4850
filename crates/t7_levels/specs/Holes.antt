-- Names of which some were taken out and still lie among the others, as holes.
use Rattle.std.specs.Prelude.{◌≡◌, ℕ, ◌+◌, ◌<◌, ◌≤◌, List, [], ◌∷◌, length, slice_index_or, Option, Some, None}
use Rattle.std.specs.declared.cmp.Ordering.{Ordering}
use Rattle.t7_levels.specs.Named.{Rises}

module _ {K : Type 0} where
  -- a name with its slot before these, where it has one
  abbrev pub with_slot : K → Option ℕ → List (K × ℕ) → List (K × ℕ)
  with_slot k None es = es
  with_slot k (Some s) es = (k, s) ∷ es

  -- the names that have slots, with them
  abbrev pub standing : List (K × Option ℕ) → List (K × ℕ)
  standing [] = []
  standing (e ∷ es) = with_slot e.0 e.1 (standing es)

  -- the names rise, the holes are so many and fewer than 512, and there is room for 20,000 names beside them
  pub record IsIndex (cmp : K → K → Ordering) (entries : List (K × Option ℕ)) (holes capacity : ℕ) : Type 0 where
    pub rises : Rises cmp entries
    pub counted : length entries ≡ length (standing entries) + holes
    pub few : holes < 512
    pub room : 20_512 ≤ capacity

  -- the entry at this place, which isn't before that one, has no slot
  pub record IsHole (entries : List (K × Option ℕ)) (from hole : ℕ) : Type 0 where
    pub order : from ≤ hole
    pub within : hole < length entries
    pub empty : (d : K × Option ℕ) → (slice_index_or entries hole d).1 ≡ None
