-- The orders of a book as they are kept.
use Rattle.std.specs.Prelude.{◌≡◌, ◌*◌, ◌≤◌, true, ℤ, List, length, map, Option, None, Some}
use Rattle.t7_base.specs.declared.public.Resting.{Resting}
use Rattle.t7_levels.specs.Chain.{Each}
use Rattle.t7_levels.specs.Index.{Orders}
use Rattle.t7_mbook.specs.declared.kept.Kept.{Kept}
use Rattle.t7_mbook.specs.Misfits.{is_listed}
use Rattle.t7_book.specs.Numbers.{number_of}

-- the order's security is the product's, and its side has this number
pub record IsNumbered (securities : List ℤ) (k : Kept) : Type 0 where
  pub listed : is_listed securities k.order.security ≡ true
  pub number : k.number ≡ number_of securities k.order.security k.order.side

-- the orders of kept ones
abbrev pub shown_orders : List Kept → List Resting
shown_orders list = map (λ (k : Kept). k.order) list

-- the order of a kept one, if there is one
abbrev pub shown_option : Option Kept → Option Resting
shown_option None = None
shown_option (Some k) = Some k.order

-- what contracts see of the orders: the product's securities, and the list in the order of the book
pub record RestingList : Type 0 where
  pub securities : List ℤ
  pub list : List Resting

-- the levels have the sides of the securities, and there are at most 20,000 orders
pub record AreKept (securities : List ℤ) (orders : Orders Kept) : Type 0 where
  pub sides : orders.sides ≡ 2 * length securities
  pub numbered : Each (IsNumbered securities) orders.list
  pub few : length orders.list ≤ 20_000
