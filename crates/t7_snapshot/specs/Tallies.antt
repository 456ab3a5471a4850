-- Where the orders of each security begin in a list, and how many they are.
use Rattle.std.specs.Prelude.{◌≡◌, ℕ, ◌+◌, ◌≤◌, ℤ, ◌==◌, if◌then◌else◌, List, [], length, map, take, drop, Option, Some}
use Rattle.std.specs.List.{All, filter}
use Rattle.std.specs.Ordering.{int_eq}
use Rattle.t7_base.specs.declared.public.Resting.{Resting}
use Rattle.t7_eobi.specs.Bytes.{IsSecurity}
use Rattle.t7_snapshot.specs.declared.tally.Tally.{Tally}
use Rattle.t7_snapshot.specs.Sending.{items_under}

-- the orders of a security
abbrev pub orders_in : ℤ → List Resting → List Resting
orders_in security orders = filter (λ order. int_eq order.security security) orders

-- no order of the security stands before this place, and this is their number
pub record IsTallied (orders : List Resting) (tally : Tally) : Type 0 where
  pub within : tally.first ≤ length orders
  pub first : orders_in tally.security (take tally.first orders) ≡ []
  pub count : tally.count ≡ length (orders_in tally.security orders)

-- a security of which no order was counted
abbrev pub untold : ℤ → Tally
untold security = record { security = security; first = 0; count = 0 }

-- a tally with one order more, which stands at this place
abbrev pub counted_at : Tally → ℕ → Tally
counted_at tally place = record { security = tally.security; first = if tally.count == 0 then place else tally.first; count = tally.count + 1 }

-- the securities that are tallied
abbrev pub securities_of : List Tally → List ℤ
securities_of tallies = map (λ tally. tally.security) tallies

-- the orders of a frozen book and the tallies of the securities, where so many of the security under way are left from a place on
pub record IsTelling (orders : List Resting) (tallies : List Tally) (number : Option ℕ) (under : Option ℤ) (place left : ℕ) : Type 0 where
  pub few : length orders ≤ 20_000
  pub tallied : All (IsTallied orders) tallies
  pub ranged : All (λ tally. IsSecurity tally.security) tallies
  pub numbered : (m : ℕ) → number ≡ Some m → m ≤ 4_294_967_294
  pub left_under : left ≡ length (items_under under (drop place orders))
