-- How a cycle is read, item by item.
use Rattle.std.specs.Prelude.{◌≡◌, ℕ, ◌+◌, ◌-◌, ◌<◌, ◌≤◌, ℤ, List, [], ◌∷◌, Option, Some, None, Bool, true, false, nat_lt, ◌&&◌, eqb, if◌then◌else◌}
use Rattle.std.specs.Ordering.{int_eq}
use Rattle.t7_eobi.specs.declared.walks.Snap.{Snap}
use Rattle.t7_eobi.specs.declared.walks.Snap.TheVariants.{Product, Instrument, Order}

-- what a cycle still awaits: its number, the securities to come, and so many orders of the one under way
pub record Awaits : Type 0 where
  pub number : Option ℕ
  pub securities : List ℤ
  pub count : ℕ

-- all of a cycle is awaited
abbrev pub fresh : List ℤ → Awaits
fresh securities = record { number = None; securities = securities; count = 0 }

-- a ProductSummary is read where no number is there yet
abbrev pub read_product : Awaits → ℕ → Option ℕ → Option Awaits
read_product w m (Some n) = None
read_product w m None = Some (record w { number = Some m })

-- an InstrumentSummary is read where it is of the next security and no order is awaited
abbrev pub read_instrument : Awaits → ℤ → ℕ → Option ℕ → List ℤ → Option Awaits
read_instrument w security count None securities = None
read_instrument w security count (Some m) [] = None
read_instrument w security count (Some m) (next ∷ others) =
    if int_eq next security && eqb w.count 0 then Some (record { number = Some m; securities = others; count = count }) else None

-- an order is read where one is awaited
abbrev pub read_order : Awaits → Option Awaits
read_order w = if nat_lt 0 w.count then Some (record w { count = w.count - 1 }) else None

-- an item is read, if it is awaited
unfoldable pub read_one : Awaits → Snap → Option Awaits
read_one w (Product m) = read_product w m w.number
read_one w (Instrument security count) = read_instrument w security count w.number w.securities
read_one w (Order side price stamp qty) = read_order w

-- what was read is read on
abbrev pub then_read : Option Awaits → (Awaits → Option Awaits) → Option Awaits
then_read None rest = None
then_read (Some w) rest = rest w

-- items are read one after another, if each is awaited
abbrev pub read_all : Awaits → List Snap → Option Awaits
read_all w [] = Some w
read_all w (snap ∷ snaps) = then_read (read_one w snap) (λ v. read_all v snaps)

-- no security is to come
abbrev pub is_none_left : List ℤ → Bool
is_none_left [] = true
is_none_left (x ∷ xs) = false

-- the cycle's number, where nothing more is awaited
unfoldable pub done_of : Awaits → Option ℕ
done_of w = if is_none_left w.securities && eqb w.count 0 then w.number else None

-- from datagram n on, what is awaited is read to its end, in datagram q
pub data Completes (at : ℕ → Option (List Snap)) : Awaits → ℕ → ℕ → ℕ → Type 0 where
  stops_at : {w : Awaits} {n m q : ℕ} (snaps : List Snap) (v : Awaits) → at n ≡ Some snaps → read_all w snaps ≡ Some v → done_of v ≡ Some m → q ≡ n → Completes at w n m q
  goes_on : {w : Awaits} {n m q : ℕ} (snaps : List Snap) (v : Awaits) → at n ≡ Some snaps → read_all w snaps ≡ Some v → done_of v ≡ None → Completes at v (n + 1) m q → Completes at w n m q

-- the first of a datagram's items is a ProductSummary
abbrev pub opens : List Snap → Bool
opens [] = false
opens (Product m ∷ snaps) = true
opens (Instrument security count ∷ snaps) = false
opens (Order side price stamp qty ∷ snaps) = false

-- the datagram of number n is kept, and opens a cycle or not
abbrev pub Kept : (ℕ → Option (List Snap)) → ℕ → Bool → Type 0
Kept at n does = (snaps : List Snap) × (at n ≡ Some snaps) × (opens snaps ≡ does)

-- p is the nearest number up to i that opens a cycle, and all after it are kept
pub record Nearest (at : ℕ → Option (List Snap)) (i p : ℕ) : Type 0 where
  pub from : p ≤ i
  pub begins : Kept at p true
  pub between : (k : ℕ) → p < k → k ≤ i → Kept at k false

-- The datagrams from number first up to the one before k were read in order, each item as it was awaited, none of them ended the cycle, and this is
-- awaited at k.
pub data Reads (at : ℕ → Option (List Snap)) (start : Awaits) (first : ℕ) : ℕ → Awaits → Type 0 where
  begins_at : {k : ℕ} {w : Awaits} → k ≡ first → w ≡ start → Reads at start first k w
  reads_on : {k : ℕ} {w : Awaits} (n : ℕ) (v : Awaits) (snaps : List Snap) → Reads at start first n v → at n ≡ Some snaps → read_all v snaps ≡ Some w → done_of w ≡ None → k ≡ n + 1 → Reads at start first k w
