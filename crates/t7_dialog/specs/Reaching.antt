-- How far the responses that are said on a connection have come in the list that is stored for its session, and what a client needs that has read them.
use Rattle.std.specs.Prelude.{◌≡◌, ℕ, ◌+◌, ◌≤◌, nat_le, if◌then◌else◌, max, List, [], ◌∷◌, Option, None, Some, option_map}
use Rattle.t7_eti.specs.declared.response.Response.{Response}
use Rattle.t7_eti.specs.declared.response.Response.TheVariants as response

-- Before the first answer to a request for responses; behind an answer, which says that so many are stored, and what it sends again; or behind live ones that came
-- after those, of which the last has this number.
pub data Reached : Type 0 where
  unanswered : Reached
  answered : (known : ℕ) → Reached
  passed : (count : ℕ) → Reached

-- how many responses have been told of, once there was an answer
abbrev pub count_of : Reached → Option ℕ
count_of unanswered = None
count_of (answered known) = Some known
count_of (passed count) = Some count

-- the number of a recoverable response: behind an answer that of one that it says is stored, or the next one; behind a live one the next one
abbrev pub IsNumbered : Reached → ℕ → Type 0
IsNumbered unanswered number = Unit {0}
IsNumbered (answered known) number = number ≤ known + 1
IsNumbered (passed count) number = number ≡ count + 1

-- what a recoverable response of this number comes to
abbrev pub numbered_to : Reached → ℕ → Reached
numbered_to unanswered number = unanswered
numbered_to (answered known) number = if nat_le number known then answered known else passed number
numbered_to (passed count) number = passed number

-- what a response comes to
abbrev pub reached_with : Reached → Response → Reached
reached_with reached (response.Resent seq count last known) = answered known
reached_with reached (response.Kept number what) = numbered_to reached number
reached_with reached other = reached

-- what responses come to, one after another
abbrev pub reached_by : Reached → List Response → Reached
reached_by reached [] = reached
reached_by reached (said ∷ more) = reached_by (reached_with reached said) more

-- a recoverable response has such a number; others may come at any time
abbrev pub IsInStep : Reached → Response → Type 0
IsInStep reached (response.Kept number what) = IsNumbered reached number
IsInStep reached other = Unit {0}

-- each of these is so
abbrev pub AreInStep : Reached → List Response → Type 0
AreInStep reached [] = Unit {0}
AreInStep reached (said ∷ more) = IsInStep reached said × AreInStep (reached_with reached said) more

-- How many responses a client needs that has read these: as many as the last answer among them says are stored, and all up to each recoverable one that it read behind
-- that answer.
abbrev pub needed : List Response → Option ℕ → Option ℕ
needed [] count = count
needed (response.Resent seq count last known ∷ more) before = needed more (Some known)
needed (response.Kept number what ∷ more) before = needed more (option_map (λ (count : ℕ). max number count) before)
needed (other ∷ more) before = needed more before

-- A client that has gathered so many responses, and whose last answer says that so many are stored, keeps up: behind an answer that is the last one; and where it has
-- gathered as many as that says, it has gathered all that came live behind it.
abbrev pub KeepsUp : Reached → Option ℕ → ℕ → Type 0
KeepsUp unanswered known count = known ≡ None
KeepsUp (answered stored) known count = known ≡ Some stored
KeepsUp (passed number) known count = (stored : ℕ) × (known ≡ Some stored) × (stored ≤ count → number ≤ count)
