-- Price-time priority, and the book as one plain list of orders.
use Rattle.std.specs.Prelude.{ℕ, ◌+◌, Bool, true, false, not, ◌&&◌, ◌==◌, nat_lt, if◌then◌else◌, ℤ, pos, ◌-ℤ◌, int_lt, List, [], ◌∷◌, map, Option}
use Rattle.std.specs.List.{filter, find}
use Rattle.std.specs.Ordering.{int_eq}
use Rattle.t7_base.specs.Listing.{Listing}
use Rattle.t7_base.specs.declared.ids.Side.{Side}
use Rattle.t7_base.specs.declared.ids.Side.TheVariants.{Buy, Sell}
use Rattle.t7_base.specs.declared.public.Resting.{Resting}
use Rattle.t7_book.specs.declared.order.Order.{Order}

-- the better price: the higher one for a buy, the lower one for a sell
abbrev pub is_better : Side → ℤ → ℤ → Bool
is_better Buy p q = int_lt q p
is_better Sell p q = int_lt p q

-- within one side of a security the better price goes first, and at the same price the earlier stamp
abbrev pub is_before : Resting → Resting → Bool
is_before x y = if int_eq x.price y.price then nat_lt x.stamp y.stamp else is_better x.side x.price y.price

-- all buys stand before all sells; within a side the test decides
abbrev pub by_side : Side → Side → Bool → Bool
by_side Buy Buy test = test
by_side Buy Sell test = true
by_side Sell Buy test = false
by_side Sell Sell test = test

-- where a security stands in the product file
abbrev pub rank_of : List ℤ → ℤ → ℕ
rank_of [] s = 0
rank_of (t ∷ ts) s = if int_eq t s then 0 else 1 + rank_of ts s

-- the order of the book: the securities as in the product file, in each the buys and then the sells, each side by price and stamp
abbrev pub goes_before : List ℤ → Resting → Resting → Bool
goes_before securities x y =
    let i = rank_of securities x.security in
    let j = rank_of securities y.security in
    if i == j then by_side x.side y.side (is_before x y) else nat_lt i j

-- the list with x put behind the elements that go before it
abbrev pub placed : {X : Type 0} → (X → X → Bool) → X → List X → List X
placed before x [] = x ∷ []
placed before x (y ∷ ys) = if before y x then y ∷ placed before x ys else x ∷ y ∷ ys

-- the two sides are one
abbrev pub is_side : Side → Side → Bool
is_side Buy Buy = true
is_side Buy Sell = false
is_side Sell Buy = false
is_side Sell Sell = true

-- an order is named on the feed by its security, its side and its stamp
abbrev pub has_name : ℤ → Side → ℕ → Resting → Bool
has_name security side stamp y = int_eq y.security security && (is_side y.side side && (y.stamp == stamp))

-- y has the name of x
abbrev pub same_name : Resting → Resting → Bool
same_name x y = has_name x.security x.side x.stamp y

-- what a book knows of its product: the securities and the sessions, each in the order of the product file
pub record Roster : Type 0 where
  pub securities : List ℤ
  pub sessions : List ℕ

-- the securities and sessions of a product
abbrev pub roster_of : Listing → Roster
roster_of listing = record { securities = listing.securities; sessions = listing.sessions }

-- what contracts see of a book: its securities and sessions, its orders, the last id, the last stamp and the number of commands so far
pub record BookState : Type 0 where
  pub roster : Roster
  pub orders : List Order
  pub last_id : ℕ
  pub last_stamp : ℕ
  pub applied : ℕ

-- the book at the beginning of the day
abbrev pub empty_book : Roster → BookState
empty_book roster = record { roster = roster; orders = []; last_id = 0; last_stamp = 0; applied = 0 }

-- the book as the feed shows it: what is public of each order
abbrev pub shown : List Order → List Resting
shown orders = map (λ y. y.rest) orders

-- an order of which this much is left, and the rest was executed
abbrev pub with_left : Order → ℕ → Order
with_left y left = record y { rest = record y.rest { qty = left }; executed = pos y.total -ℤ pos left }

-- the book with an order more, which stands in its place
abbrev pub with_order : List ℤ → Order → List Order → List Order
with_order securities x orders = placed (λ y z. goes_before securities y.rest z.rest) x orders

-- the book without the order of this name
abbrev pub without : Resting → List Order → List Order
without x orders = filter (λ y. not (same_name x y.rest)) orders

-- x in the place of the order of its name
abbrev pub renewed_order : Order → Order → Order
renewed_order x y = if same_name x.rest y.rest then x else y

-- the book in which x stands where the order of its name stood
abbrev pub renewed : Order → List Order → List Order
renewed x orders = map (renewed_order x) orders

-- the order has this id and this owner
abbrev pub is_order : ℕ → ℕ → Order → Bool
is_order session id y = (y.id == id) && (y.owner == session)

-- the resting order with this id and this owner
abbrev pub order_of : List Order → ℕ → ℕ → Option Order
order_of orders session id = find (is_order session id) orders

-- the order is in this security
abbrev pub is_in : ℤ → Order → Bool
is_in security y = int_eq y.rest.security security

-- an order of that session in that security
abbrev pub is_of : ℕ → ℤ → Order → Bool
is_of session security y = (y.owner == session) && is_in security y
