-- What taking a snapshot datagram does, by what is kept under each number.
use Rattle.std.specs.Prelude.{◌≡◌, ℕ, ◌+◌, ◌<◌, ◌≤◌, ◌⊎◌, ℤ, List, [], Option, Some, None, eqb, if◌then◌else◌}
use Rattle.t7_base.specs.Listing.{Listing}
use Rattle.t7_eobi.specs.declared.walks.Snap.{Snap}
use Rattle.t7_base.specs.declared.public.Resting.{Resting}
use Rattle.t7_feed.specs.Arrivals.{or_else}
use Rattle.t7_feed.specs.Fitting.{staged}
use Rattle.t7_feed.specs.Whole.{IsBelow}
use Rattle.t7_member.specs.declared.standing.Refusal.{Refusal}
use Rattle.t7_feed.specs.Cycles.{Finds, orders_of, Section}

-- nothing is refused, or a number up to m
abbrev pub IsUpTo : Option Refusal → ℕ → Type 0
IsUpTo None m = Unit {0}
IsUpTo (Some q) m = q.number ≤ m

-- the answer is a whole cycle with datagram i, and there is none only where no such cycle stands
abbrev pub Answers : List ℤ → (ℕ → Option (List Snap)) → ℕ → Option (ℕ × List Section) → Type 0
Answers securities packets i None = (m : ℕ) (parts : List Section) → Finds securities packets i m parts → ⊥
Answers securities packets i (Some whole) = Finds securities packets i whole.0 whole.1

-- snapshot datagram i was taken, where the highest number is `highest` now
pub record Assembles (listing : Listing) (highest i : ℕ) (snaps : List Snap) (old new : ℕ → Option (List Snap)) (answer : Option (ℕ × List Section)) : Type 0 where
  pub near : (j : ℕ) (is : List Snap) → new j ≡ Some is → highest < j + listing.packets
  pub kept : (j : ℕ) → highest < j + listing.packets → new j ≡ or_else (old j) (if eqb i j then Some snaps else None)
  pub answers : Answers listing.securities new i answer

-- What staging a whole cycle answers, where these are kept and datagram i came last: its number, where a cycle stands there that is above the base, not
-- below what was refused, and whose orders fit; they are staged then.
abbrev pub Stages : List ℤ → (ℕ → Option (List Snap)) → ℕ → Option ℕ → Option Refusal → List Resting → Option ℕ → Type 0
Stages securities packets i base refused list None =
    ((m : ℕ) (parts : List Section) → Finds securities packets i m parts → ⊥)
    ⊎ ((m : ℕ) × (parts : List Section) × Finds securities packets i m parts × (IsBelow base m → IsUpTo refused m → staged securities (orders_of parts) [] ≡ None))
Stages securities packets i base refused list (Some m) =
    (parts : List Section) × Finds securities packets i m parts × IsBelow base m × IsUpTo refused m × (staged securities (orders_of parts) [] ≡ Some list)
