-- The ring of a gap buffer: a message stands at the place of its number modulo the window.
use Rattle.std.specs.Prelude.{◌≡◌, ℕ, ◌+◌, ◌%◌, ◌≤◌, List, [], ◌∷◌, Option, Some, None, eqb, nat_lt, if◌then◌else◌}
use Rattle.t7_base.specs.declared.public.Public.{Public}

-- the message of a place, where it has this number
abbrev pub said_at : Option (ℕ × Public) → ℕ → Option Public
said_at None k = None
said_at (Some kept) k = if eqb kept.0 k then Some kept.1 else None

-- the messages of the places that are in the window below the highest number, with their numbers
abbrev pub entries : ℕ → ℕ → List (Option (ℕ × Public)) → List (ℕ × Public)
entries window highest [] = []
entries window highest (None ∷ places) = entries window highest places
entries window highest (Some kept ∷ places) =
    if nat_lt highest (kept.0 + window) then (kept.0, kept.1) ∷ entries window highest places else entries window highest places

-- from place b on, each message stands at its place, and no number is above the highest
abbrev pub IsPlaced : ℕ → ℕ → ℕ → List (Option (ℕ × Public)) → Type 0
IsPlaced window highest b [] = Unit {0}
IsPlaced window highest b (None ∷ places) = IsPlaced window highest (b + 1) places
IsPlaced window highest b (Some kept ∷ places) = (kept.0 % window ≡ b) × (kept.0 ≤ highest) × IsPlaced window highest (b + 1) places
