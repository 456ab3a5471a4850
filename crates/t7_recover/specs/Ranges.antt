-- The responses that a retransmission request (RetransmitMEMessageRequest) asks for: those behind the number `after`, which is not
-- among them (ApplBegMsgID), up to the number `upto`, which is (ApplEndMsgID).
use Rattle.std.specs.Prelude.{◌≡◌, ℕ, ◌+◌, ◌-◌, ◌<◌, min, ◌||◌, nat_lt, Bool, List, length, take, drop, slice_get}
use Rattle.t7_eti.specs.declared.response.Kept.{Kept}

-- the numbers above `after` up to the least of `upto`, the list's length and `after + 500`; the first of a list has number 1
abbrev pub range_of : {X : Type 0} → List X → ℕ → ℕ → List X
range_of list after upto = take (min upto (after + 500) - after) (drop after list)

-- there is no such range: it ends before it begins, or begins behind the last number
abbrev pub is_bad_range : {X : Type 0} → List X → ℕ → ℕ → Bool
is_bad_range list after upto = nat_lt upto after || nat_lt (length list) after

-- A range has as many responses as there are numbers above `after` up to the least of `upto`, the last number and `after + 500`, and
-- they are those of these numbers, in order. (The response of a number stands one place before it.)
pub record IsRange (list : List Kept) (after upto : ℕ) : Type 0 where
  pub count : length (range_of list after upto) ≡ min (min upto (length list)) (after + 500) - after
  pub each : (k : ℕ) → k < length (range_of list after upto) → slice_get (range_of list after upto) k ≡ slice_get list (after + k)

-- so is each range
abbrev pub RangesAreSlices : Type 0
RangesAreSlices = (list : List Kept) (after upto : ℕ) → IsRange list after upto
