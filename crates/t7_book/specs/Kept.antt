-- The orders of a book as they are kept on their levels.
use Rattle.std.specs.Prelude.{◌≡◌, ◌≢◌, ◌==◌, if◌then◌else◌, ℕ, ◌*◌, ◌<◌, ◌≤◌, Bool, true, false, ◌&&◌, ℤ, List, [], ◌∷◌, length, map, slice_index_or, Option, None, Some}
use Rattle.std.specs.List.{filter, find}
use Rattle.std.specs.Ordering.{int_eq}
use Rattle.t7_base.specs.declared.ids.Side.{Side}
use Rattle.t7_levels.specs.Chain as chain
use Rattle.t7_levels.specs.Index as index
use Rattle.t7_book.specs.declared.kept.Kept.{Kept}
use Rattle.t7_book.specs.declared.order.Order.{Order}
use Rattle.t7_book.specs.Orders.{is_side, rank_of, same_name}
use Rattle.t7_book.specs.Laws.{Each, Distinct, IsInOrder}
use Rattle.t7_book.specs.Numbers.{is_listed, number_of}

-- the order's security is the product's, and its side has this number
pub record IsNumbered (securities : List ℤ) (k : Kept) : Type 0 where
  pub listed : is_listed securities k.order.rest.security ≡ true
  pub number : k.number ≡ number_of securities k.order.rest.security k.order.rest.side

-- the orders of kept ones
abbrev pub orders_in : List Kept → List Order
orders_in list = map (λ (k : Kept). k.order) list

-- the order of a kept one, if there is one
abbrev pub order_in : Option Kept → Option Order
order_in None = None
order_in (Some k) = Some k.order

-- the order is on that side of that security
abbrev pub is_on : ℤ → Side → Order → Bool
is_on security side y = int_eq y.rest.security security && is_side y.rest.side side

-- what contracts see of the orders: the product's securities, and the list in the order of the book
pub record OrderList : Type 0 where
  pub securities : List ℤ
  pub list : List Order

-- the order is in the security of this place in the product file
abbrev pub is_ranked : List ℤ → ℕ → Order → Bool
is_ranked securities i y = rank_of securities y.rest.security == i

-- how many orders the security of this place has
abbrev pub count_at : List ℤ → ℕ → List Order → ℕ
count_at securities i list = length (filter (is_ranked securities i) list)

-- the counts are those of the orders of each security
abbrev pub AreCounted : List ℤ → List ℕ → List Order → Type 0
AreCounted securities counts list = (i : ℕ) → i < length securities → slice_index_or counts i 0 ≡ count_at securities i list

-- the levels have the sides of the securities, the orders stand in the order of the book, each once, and are counted
pub record AreKept (securities : List ℤ) (orders : index.Orders Kept) (counts : List ℕ) : Type 0 where
  pub places : length counts ≡ length securities
  pub counted : AreCounted securities counts (orders_in orders.list)
  pub sides : orders.sides ≡ 2 * length securities
  pub numbered : chain.Each (IsNumbered securities) orders.list
  pub few : length orders.list ≤ 20_000
  pub in_order : IsInOrder securities (orders_in orders.list)
  pub distinct : Distinct (orders_in orders.list)

-- the order is the one of its name in the list
abbrev pub Stands : List Order → Order → Type 0
Stands list y = find (λ z. same_name y.rest z.rest) list ≡ Some y

-- x is an order of the list with other quantities
pub record Requantifies (list : List Order) (x : Order) : Type 0 where
  pub kept : Order
  pub stands : Stands list kept
  pub same_id : kept.id ≡ x.id
  pub same_rest : x.rest ≡ record kept.rest { qty = x.rest.qty }

-- x may come into the list: its security is the product's, there is room for it, and its stamp and its id are new
pub record MayEnter (orders : OrderList) (x : Order) : Type 0 where
  pub listed : is_listed orders.securities x.rest.security ≡ true
  pub room : length orders.list < 20_000
  pub new_stamp : Each (λ y. y.rest.stamp ≢ x.rest.stamp) orders.list
  pub new_id : Each (λ y. y.id ≢ x.id) orders.list

-- from the first that fails the test on, all fail it
abbrev pub EndsAtFirst : (Order → Bool) → List Order → Type 0
EndsAtFirst p [] = Unit {0}
EndsAtFirst p (y ∷ ys) = (p y ≡ false → Each (λ z. p z ≡ false) ys) × EndsAtFirst p ys

-- the order of a kept one, where the session owns it
abbrev pub owned : ℕ → Option Kept → Option Order
owned session None = None
owned session (Some k) = if k.order.owner == session then Some k.order else None
