-- The cells of a script's line, and what each form of cell says.
use Rattle.std.specs.Prelude.{ℕ, Bool, true, false, ◌==◌, nat_le, nat_lt, if◌then◌else◌, ℤ, pos, neg_ℤ, List, [], ◌∷◌, Option, Some, None, option_map, codes, drop, length, take}
use Rattle.std.specs.List.{list_any}
use Rattle.std.specs.Option.{option_and_then}
use Rattle.std.specs.Ordering.{int_eq}
use Rattle.std.specs.Result.{result_ok}
use Rattle.std.specs.Str.{bytes_eq}
use Rattle.hex.specs.Hex.{decode_of}
use Rattle.t7_base.specs.declared.ids.Side.{Side}
use Rattle.t7_base.specs.declared.ids.Side.TheVariants.{Buy, Sell}
use Rattle.t7_base.specs.declared.ids.Feed.{Feed}
use Rattle.t7_base.specs.declared.ids.Feed.TheVariants.{LiveA, LiveB, SnapA, SnapB}
use Rattle.t7_records.specs.Numbers.{is_decimal_to, value_of}

-- a byte more at the front of the first cell
abbrev pub with_byte : ℕ → List (List ℕ) → List (List ℕ)
with_byte b [] = (b ∷ []) ∷ []
with_byte b (cell ∷ cells) = (b ∷ cell) ∷ cells

-- the cells of a line, which single spaces separate; there is one at least
abbrev pub cells_of : List ℕ → List (List ℕ)
cells_of [] = [] ∷ []
cells_of (b ∷ bytes) = if b == 32 then [] ∷ cells_of bytes else with_byte b (cells_of bytes)

-- the cell, where there is one alone
abbrev pub one_of : List (List ℕ) → Option (List ℕ)
one_of (a ∷ []) = Some a
one_of _ = None

-- the two cells, where there are so many
abbrev pub two_of : List (List ℕ) → Option (List ℕ × List ℕ)
two_of (a ∷ b ∷ []) = Some (a, b)
two_of _ = None

-- the five cells of an order: security, side, price, quantity and ClOrdID
pub record OrderCells : Type 0 where
  pub security : List ℕ
  pub side : List ℕ
  pub price : List ℕ
  pub quantity : List ℕ
  pub client : List ℕ

-- the five cells, where there are so many
abbrev pub order_of : List (List ℕ) → Option OrderCells
order_of (a ∷ b ∷ c ∷ d ∷ e ∷ []) = Some (record { security = a; side = b; price = c; quantity = d; client = e })
order_of _ = None

-- the number of a plain decimal that is at most this
abbrev pub decimal_to : ℕ → List ℕ → Option ℕ
decimal_to most cell = if is_decimal_to most cell then Some (value_of cell) else None

-- a number from a least to a greatest, as a plain decimal
unfoldable pub number_within : ℕ → ℕ → List ℕ → Option ℕ
number_within least most cell = option_and_then (λ n. if nat_le least n then Some n else None) (decimal_to most cell)

-- a number of 64 bits
abbrev pub number : List ℕ → Option ℕ
number cell = number_within 0 18_446_744_073_709_551_615 cell

-- the number of a connection, which scripts may give from 1 to 1,000
abbrev pub connection : List ℕ → Option ℕ
connection cell = number_within 1 1_000 cell

-- a moment that isn't before the last one
abbrev pub moment : ℕ → List ℕ → Option ℕ
moment last cell = number_within last 4_611_686_018_427_387_903 cell

-- a security is one of these
abbrev pub is_listed : List ℤ → ℤ → Bool
is_listed listed security = list_any (λ s. int_eq s security) listed

-- a SecurityID that is one of these
abbrev pub security : List ℤ → List ℕ → Option ℤ
security listed cell = option_and_then (λ n. if is_listed listed (pos n) then Some (pos n) else None) (number_within 1 1_000_000_000_000_000_000 cell)

-- a PartyIDSessionID that is one of these
abbrev pub session : List ℕ → List ℕ → Option ℕ
session listed cell = option_and_then (λ n. if list_any (λ s. s == n) listed then Some n else None) (number_within 1 4_000_000_000 cell)

-- 1 is buy and 2 is sell
abbrev pub side : List ℕ → Option Side
side cell = if bytes_eq cell (codes "1") then Some Buy else if bytes_eq cell (codes "2") then Some Sell else None

-- a price: a plain decimal, behind a `-` where it is below zero
abbrev pub price : List ℕ → Option ℤ
price cell =
    if bytes_eq (take 1 cell) (codes "-") then option_map (λ n. neg_ℤ (pos n)) (number_within 1 100_000_000_000_000_000 (drop 1 cell))
    else option_map (λ n. pos n) (number_within 0 100_000_000_000_000_000 cell)

-- a quantity
abbrev pub quantity : List ℕ → Option ℕ
quantity cell = number_within 1 1_000_000_000_000_000 cell

-- a ClOrdID: any number of 64 bits but the greatest
abbrev pub client : List ℕ → Option ℕ
client cell = number_within 0 18_446_744_073_709_551_614 cell

-- how many bytes: a number, or `*` for all, which is none
abbrev pub byte_count : List ℕ → Option (Option ℕ)
byte_count cell = if bytes_eq cell (codes "*") then Some None else option_map (λ n. Some n) (number cell)

-- the word of a feed
abbrev pub feed : List ℕ → Option Feed
feed cell =
    if bytes_eq cell (codes "LA") then Some LiveA
    else if bytes_eq cell (codes "LB") then Some LiveB
    else if bytes_eq cell (codes "SA") then Some SnapA
    else if bytes_eq cell (codes "SB") then Some SnapB
    else None

-- the bytes that hex digits spell, in either case; there is one at least
unfoldable pub hex : List ℕ → Option (List ℕ)
hex digits = if nat_lt 0 (length digits) then result_ok (decode_of digits) else None

-- the bytes of an IN, of which there may be 65,536
unfoldable pub piece : List ℕ → Option (List ℕ)
piece digits = if nat_lt 131_072 (length digits) then None else hex digits

-- the bytes of a forged datagram, where `-` stands for none
unfoldable pub forged : List ℕ → Option (List ℕ)
forged cell = if bytes_eq cell (codes "-") then Some [] else hex cell

-- there are none
abbrev pub is_nothing : List (List ℕ) → Bool
is_nothing [] = true
is_nothing (cell ∷ cells) = false
