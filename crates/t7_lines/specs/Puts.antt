-- What the calls of a gap buffer do, by what is kept under each number.
use Rattle.std.specs.Prelude.{◌≡◌, ◌≢◌, ℕ, ◌+◌, ◌<◌, ◌≤◌, ◌⊎◌, List, Option, Some, None}
use Rattle.t7_base.specs.declared.public.Public.{Public}
use Rattle.t7_feed.specs.Whole.{IsBelow}
use Rattle.t7_lines.specs.Gap.{kept_at}
use Rattle.t7_lines.specs.declared.put.Put.{Put}
use Rattle.t7_lines.specs.declared.put.Put.TheVariants.{Old, Outside, New}

-- What a put answers, where h is the highest number put so far, this one included: the number is at most the base, or it is kept already; or else it
-- is at most h less the window; or else it is new.
abbrev pub IsPut : Put → ℕ → ℕ → Option ℕ → ℕ → List (ℕ × Public) → Type 0
IsPut Old window h base k old = (IsBelow base k → ⊥) ⊎ ((is : Public) × (kept_at old k ≡ Some is))
IsPut Outside window h base k old = IsBelow base k × (kept_at old k ≡ None) × (k + window ≤ h)
IsPut New window h base k old = IsBelow base k × (kept_at old k ≡ None) × (h < k + window)

-- what is kept under the number that was put, while it is in the window: a new message is kept, and no other takes the place of one that is kept
abbrev pub KeepsNew : Put → ℕ → Public → List (ℕ × Public) → List (ℕ × Public) → Type 0
KeepsNew Old k said old new = kept_at new k ≡ kept_at old k
KeepsNew Outside k said old new = kept_at new k ≡ None
KeepsNew New k said old new = kept_at new k ≡ Some said

-- What is kept once message k was put, where h is the highest number put so far: the numbers up to h less the window are dropped, and what is kept under the
-- others stays, but for number k.
pub record Puts (put : Put) (window h k : ℕ) (said : Public) (old new : List (ℕ × Public)) : Type 0 where
  pub dropped : (i : ℕ) → i + window ≤ h → kept_at new i ≡ None
  pub others : (i : ℕ) → i ≢ k → h < i + window → kept_at new i ≡ kept_at old i
  pub this : KeepsNew put k said old new

-- number k is taken off: it isn't kept, and all others are as before
pub record TakesOff (k : ℕ) (old new : List (ℕ × Public)) : Type 0 where
  pub gone : kept_at new k ≡ None
  pub others : (i : ℕ) → i ≢ k → kept_at new i ≡ kept_at old i
