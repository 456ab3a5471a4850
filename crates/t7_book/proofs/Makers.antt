-- The resting orders that an incoming order trades with stand in the book until their trade.
use Rattle.std.proofs.Common.{◌≡◌, ◌≢◌, ℕ, ◌-◌, ◌≤◌, zero, suc, Bool, true, false, not, cond, List, [], ◌∷◌, refl, ap, inl, inr, arith}
use Rattle.std.specs.List.{filter}
use Rattle.t7_base.specs.declared.public.Resting.{Resting}
use Rattle.t7_book.specs.declared.order.Order.{Order}
use Rattle.t7_book.specs.declared.trade.Trade.{Trade}
use Rattle.t7_book.specs.Orders.{same_name, without, with_left, renewed}
use Rattle.t7_book.specs.Trades.{taken, trades, crosses, is_used_up, after_trade}
use Rattle.t7_book.specs.Laws.{Each, Distinct}
use Rattle.t7_book.proofs.Lists.{IsIn, each_weaker, each_filter, distinct_filter, in_filter, in_renewed, other_name}

-- P holds of each trade
abbrev pub EachTrade : (Trade → Type 0) → List Trade → Type 0
EachTrade P [] = Unit {0}
EachTrade P (t ∷ ts) = P t × EachTrade P ts

-- the maker stands in the list, gives no more than it has, and comes once
abbrev pub AreMakers : List Trade → List Order → Type 0
AreMakers [] orders = Unit {0}
AreMakers (t ∷ ts) orders = IsIn t.maker orders × (t.qty ≤ t.maker.rest.qty) × EachTrade (λ u. u.maker.rest.stamp ≢ t.maker.rest.stamp) ts × AreMakers ts orders

-- an order of another stamp stays where a trade is carried out
pub stays : (t : Trade) (y : Order) (orders : List Order) → y.rest.stamp ≢ t.maker.rest.stamp → IsIn y orders → IsIn y (after_trade t orders)
stays t y orders differ at =
    let other : same_name t.maker.rest y.rest ≡ false = other_name t.maker.rest y.rest differ in
    let passes : not (same_name t.maker.rest y.rest) ≡ true = ap not other in
    elim (is_used_up t) as (λ b. IsIn y (cond b (without t.maker.rest orders) (renewed (with_left t.maker (t.maker.rest.qty - t.qty)) orders))) [
      | true ↦ in_filter (λ z. not (same_name t.maker.rest z.rest)) y orders passes at
      | false ↦ in_renewed (with_left t.maker (t.maker.rest.qty - t.qty)) y orders other at
    ]

pub makers_after : (t : Trade) (ts : List Trade) (orders : List Order) → EachTrade (λ u. u.maker.rest.stamp ≢ t.maker.rest.stamp) ts → AreMakers ts orders → AreMakers ts (after_trade t orders)
makers_after t [] orders differ makers = tt
makers_after t (u ∷ us) orders differ makers = (stays t u.maker orders differ.0 makers.0, makers.1, makers.2, makers_after t us orders differ.1 makers.3)

taken_each : (P : Order → Type 0) (ys : List Order) (wanted : ℕ) → Each P ys → EachTrade (λ u. P u.maker) (taken ys wanted)
taken_each P [] wanted h = tt
taken_each P (y ∷ ys) zero h = tt
taken_each P (y ∷ ys) (suc n) h = (h.0, taken_each P ys (suc n - y.rest.qty) h.1)

taken_makers : (ys orders : List Order) (wanted : ℕ) → Distinct ys → Each (λ y. IsIn y orders) ys → AreMakers (taken ys wanted) orders
taken_makers [] orders wanted d all = tt
taken_makers (y ∷ ys) orders zero d all = tt
taken_makers (y ∷ ys) orders (suc n) d all =
    (all.0, omega arith, taken_each (λ z. z.rest.stamp ≢ y.rest.stamp) ys (suc n - y.rest.qty) d.0, taken_makers ys orders (suc n - y.rest.qty) d.1 all.1)

pub each_in : (orders : List Order) → Each (λ y. IsIn y orders) orders
each_in [] = tt
each_in (y ∷ ys) = (inl refl, each_weaker (λ z. IsIn z ys) (λ z. IsIn z (y ∷ ys)) (λ z at. inr at) ys (each_in ys))

-- the trades of an incoming order
pub trades_makers : (x : Resting) (orders : List Order) → Distinct orders → AreMakers (trades x orders) orders
trades_makers x orders d =
    let p : Order → Bool = λ y. crosses x y.rest in
    taken_makers (filter p orders) orders x.qty (distinct_filter p orders d) (each_filter p (λ y. IsIn y orders) orders (each_in orders))
