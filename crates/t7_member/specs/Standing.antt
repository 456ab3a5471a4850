-- Where a member stands.
use Rattle.std.specs.Prelude.{ℕ, Option, Some, None}
use Rattle.t7_member.specs.declared.standing.Refusal.{Refusal}
use Rattle.t7_member.specs.declared.standing.Standing.{Standing}
use Rattle.t7_member.specs.declared.standing.Standing.TheVariants.{At, Stopped, Waits}

-- the base, which is the number that the book stands at: none while the member waits, or a message was refused
abbrev pub base_of : Standing → Option ℕ
base_of Waits = None
base_of (At n) = Some n
base_of (Stopped refusal) = None

-- what was refused: none while the member waits, or its book stands at a number
abbrev pub refusal_of : Standing → Option Refusal
refusal_of Waits = None
refusal_of (At n) = None
refusal_of (Stopped refusal) = Some refusal
