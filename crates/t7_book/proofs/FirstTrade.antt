-- An incoming order trades with the first order that it crosses, and then as what that leaves trades.
use Rattle.std.proofs.Common.{◌≡◌, ◌≢◌, ℕ, zero, suc, ◌-◌, ◌≤◌, min, Bool, true, List, [], ◌∷◌, Some, None, refl, ap, sym, ◌∙◌, inl, inr, arith}
use Rattle.std.specs.List.{filter, find}
use Rattle.std.proofs.lemmas.Bool.{cases_Bool, leb-false}
use Rattle.t7_base.specs.declared.public.Resting.{Resting}
use Rattle.t7_book.specs.declared.order.Order.{Order}
use Rattle.t7_book.specs.declared.trade.Trade.{Trade}
use Rattle.t7_book.specs.Orders.{same_name, without}
use Rattle.t7_book.specs.Trades.{taken, trades, crosses, is_used_up, after_trade}
use Rattle.t7_book.proofs.TradeLemmas.{taken-zero, same_name_refl}
use Rattle.t7_book.specs.Laws.{Each, Distinct, first_crossing, trade_with, lowered, AllTradeInTurn}
use Rattle.t7_book.proofs.Lists.{other_name}

module _ (p : Order → Bool) where
  -- none passes
  filter_none : (ys : List Order) → find p ys ≡ None → filter p ys ≡ []
  filter_none [] none = refl
  filter_none (y ∷ ys) none = elim (cases_Bool (p y)) [
    | inl passes ↦ let e : Some y ≡ None = rw passes at none in cc
    | inr fails ↦ rw fails (filter_none ys (rw fails at none))
  ]

  -- no order of other stamps goes
  kept_all : (y : Order) (ys : List Order) → Each (λ z. z.rest.stamp ≢ y.rest.stamp) ys → without y.rest ys ≡ ys
  kept_all y [] differ = refl
  kept_all y (z ∷ zs) differ = rw (other_name y.rest z.rest differ.0) (ap (λ (t : List Order). z ∷ t) (kept_all y zs differ.1))

  -- the first that passes, and what passes without it
  filter_first : (y : Order) (ys : List Order) → Distinct ys → find p ys ≡ Some y → filter p ys ≡ y ∷ filter p (without y.rest ys)
  filter_first y [] d found = cc
  filter_first y (z ∷ zs) d found = elim (cases_Bool (p z)) [
    | inl passes ↦
        let same : z ≡ y = let e : Some z ≡ Some y = rw passes at found in cc in
        let named : same_name y.rest z.rest ≡ true = rw same (same_name_refl y.rest) in
        let rest : without y.rest zs ≡ zs = rw (← same) (kept_all z zs d.0) in
        rw (passes, named, rest, same) refl
    | inr fails ↦
        let rest = filter_first y zs d.1 (rw fails at found) in
        let out : filter p (without y.rest (z ∷ zs)) ≡ filter p (without y.rest zs) = elim (cases_Bool (same_name y.rest z.rest)) [ inl named ↦ rw named refl | inr other ↦ rw (other, fails) refl ] in
        rw (fails, out) rest
  ]

-- where something is wanted and an order is crossed: the trade with the first such order, and then the trades of what it leaves
first_trade : (x : Resting) (n : ℕ) (y : Order) (orders : List Order) → Distinct orders → find (λ z. crosses x z.rest) orders ≡ Some y
    → (let t : Trade = record { maker = y; qty = min (suc n) y.rest.qty } in
    trades (record x { qty = suc n }) orders ≡ t ∷ trades (record x { qty = suc n - t.qty }) (after_trade t orders))
first_trade x n y orders d found =
    let p : Order → Bool = λ z. crosses x z.rest in
    let t : Trade = record { maker = y; qty = min (suc n) y.rest.qty } in
    let others = filter p (without y.rest orders) in
    let opened : taken (filter p orders) (suc n) ≡ t ∷ taken others (suc n - y.rest.qty) = ap (λ (ys : List Order). taken ys (suc n)) (filter_first p y orders d found) in
    let ends : taken others (suc n - y.rest.qty) ≡ taken (filter p (after_trade t orders)) (suc n - t.qty) = elim (cases_Bool (is_used_up t)) [
      | inl used ↦
          let same : suc n - y.rest.qty ≡ suc n - t.qty = omega arith in
          rw (used, same) refl
      | inr open_still ↦
          let less = leb-false y.rest.qty t.qty open_still in
          let nothing : suc n - y.rest.qty ≡ 0 = omega arith in
          let left : suc n - t.qty ≡ 0 = omega arith in
          rw (nothing, left) (taken-zero others ∙ sym (taken-zero (filter p (after_trade t orders))))
    ] in
    opened ∙ ap (λ (ts : List Trade). t ∷ ts) ends

-- the same for a quantity that is something
first_of_some : (x : Resting) (q : ℕ) (y : Order) (orders : List Order) → Distinct orders → 1 ≤ q → first_crossing x orders ≡ Some y
    → (let z : Resting = record x { qty = q } in
    trades z orders ≡ trade_with z y ∷ trades (lowered z (trade_with z y)) (after_trade (trade_with z y) orders))
first_of_some x zero y orders d some found = absurd (omega arith)
first_of_some x (suc n) y orders d some found = first_trade x n y orders d found

pub all_trade_in_turn : AllTradeInTurn
all_trade_in_turn x orders d = record {
  nothing_left = λ (nothing : x.qty ≡ 0). rw nothing (taken-zero (filter (λ (y : Order). crosses x y.rest) orders));
  none_crosses = λ (none : first_crossing x orders ≡ None). ap (λ (ys : List Order). taken ys x.qty) (filter_none (λ (y : Order). crosses x y.rest) orders none);
  first = λ (y : Order) (some : 1 ≤ x.qty) (found : first_crossing x orders ≡ Some y). first_of_some x x.qty y orders d some found;
}
