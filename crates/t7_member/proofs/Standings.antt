-- Where a member stands, and what that says of its base and its refusal.
use Rattle.std.proofs.Common.{◌≡◌, ℕ, Some, None, refl, ap}
use Rattle.t7_member.specs.declared.standing.Standing.{Standing}
use Rattle.t7_member.specs.declared.standing.Standing.TheVariants.{At, Stopped, Waits}
use Rattle.t7_member.specs.Standing.{base_of, refusal_of}

-- with a base nothing is refused
pub unrefused : (s : Standing) (n : ℕ) → base_of s ≡ Some n → refusal_of s ≡ None
unrefused Waits n h = refl
unrefused (At m) n h = refl
unrefused (Stopped refusal) n h = absurd (cc h)

pub base_at : (s : Standing) (n : ℕ) → s ≡ At n → base_of s ≡ Some n
base_at s n h = ap base_of h

-- elsewhere there is none
pub base_none : (s : Standing) → ((n : ℕ) → s ≡ At n → ⊥) → base_of s ≡ None
base_none Waits other = refl
base_none (At n) other = absurd (other n refl)
base_none (Stopped refusal) other = refl
