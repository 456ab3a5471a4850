-- The moments of one call more.
use Rattle.std.proofs.Common.{◌≡◌, ℕ, ◌+◌, Bool, true, false, if◌then◌else◌, List, Some, None, refl, add-one}
use Rattle.t7_memory.specs.ClockStates.{moment_at, moments_of}
use Rattle.t7_memory.specs.Notes.{more}

-- a moment more, where the moments are told
pub given_more : (told : Bool) (moments : List ℕ) (calls : ℕ)
    → (if told then Some (moments_of moments (calls + 1)) else None) ≡ more (if told then Some (moments_of moments calls) else None) (moment_at moments calls)
given_more true moments calls = rw add-one refl
given_more false moments calls = refl
