-- What a member shows.
use Rattle.std.specs.Prelude.{ℕ, ◌+◌, List, [], Option, Some, None, eqb, if◌then◌else◌}
use Rattle.t7_base.specs.declared.public.Resting.{Resting}
use Rattle.t7_feed.specs.declared.State.{State}
use Rattle.t7_feed.specs.declared.State.TheVariants.{Wait, Sync, Miss, Refused}
use Rattle.t7_member.specs.declared.standing.Refusal.{Refusal}

-- with a base the state is in sync exactly where the base is what is known, else the next number is missing
abbrev pub status_of : Option ℕ → Option Refusal → ℕ → State
status_of (Some n) refused known = if eqb n known then Sync n else Miss (n + 1)
status_of None (Some q) known = Refused q.number q.why
status_of None None known = Wait

-- the orders of a member: its list beside a base, else none
abbrev pub shown_of : Option ℕ → List Resting → List Resting
shown_of (Some n) list = list
shown_of None list = []
