-- What contracts see of a store: for each session of the product the list of its responses, and its room.
use Rattle.std.specs.Prelude.{◌≡◌, ℕ, zero, suc, ◌-◌, ◌==◌, ◌≤◌, if◌then◌else◌, List, [], ◌∷◌, ◌++◌, map, vec_len, vec_capacity}
use Rattle.t7_eti.specs.declared.response.Kept.{Kept}
use Rattle.t7_recover.specs.declared.store.Row.{Row}

-- a session's stored responses, in the order of their numbers, and for how many more there is room
pub record Shelf : Type 0 where
  pub session : ℕ
  pub kept : List Kept
  pub spare : ℕ

-- the shelf of a session's row
abbrev pub shelf_of : Row → Shelf
shelf_of row = record { session = row.session; kept = row.kept.items; spare = vec_capacity row.kept - vec_len row.kept }

-- where a session's row stands, or the end where it has none
abbrev pub place_in : ℕ → List Row → ℕ
place_in session [] = zero
place_in session (row ∷ rows) = if row.session == session then zero else suc (place_in session rows)

-- the sessions that have a list
abbrev pub sessions_of : List Shelf → List ℕ
sessions_of shelves = map (λ (s : Shelf). s.session) shelves

-- no response is stored, and there is no room
abbrev pub empty_shelf : ℕ → Shelf
empty_shelf session = record { session = session; kept = []; spare = 0 }

-- the responses stored for a session; none for another one
abbrev pub kept_of : List Shelf → ℕ → List Kept
kept_of [] session = []
kept_of (s ∷ shelves) session = if s.session == session then s.kept else kept_of shelves session

-- for how many more there is room; none for another session
abbrev pub spare_of : List Shelf → ℕ → ℕ
spare_of [] session = 0
spare_of (s ∷ shelves) session = if s.session == session then s.spare else spare_of shelves session

-- a response more in a session's list, which takes one of its room
abbrev pub appended : List Shelf → ℕ → Kept → List Shelf
appended [] session what = []
appended (s ∷ shelves) session what =
    if s.session == session then record s { kept = s.kept ++ what ∷ []; spare = s.spare - 1 } ∷ shelves else s ∷ appended shelves session what

-- no list is changed, and no room falls
pub record KeepsAll (old new : List Shelf) : Type 0 where
  pub sessions : sessions_of new ≡ sessions_of old
  pub lists : (session : ℕ) → kept_of new session ≡ kept_of old session
  pub spares : (session : ℕ) → spare_of old session ≤ spare_of new session
