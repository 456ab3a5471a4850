-- The steps of accepted commands lead from list to list, and each of the lists is fit.
use Rattle.std.proofs.Common.{◌≡◌, ◌≢◌, ℕ, ◌+◌, ◌-◌, ◌<◌, ◌≤◌, zero, suc, ℤ, true, false, not, cond, List, [], ◌∷◌, ◌++◌, length, Option, Some, None, refl, ap, sym, subst, inl, inr, arith}
use Rattle.std.specs.Prelude.{nat_le}
use Rattle.std.specs.List.{filter, Contains}
use Rattle.std.proofs.lemmas.Bool.{cases_Bool, leb-true, leb-false, or_parts}
use Rattle.t7_book.specs.Orders.{Roster}
use Rattle.t7_base.specs.declared.ids.Side.{Side}
use Rattle.t7_base.specs.declared.public.Public.{Public}
use Rattle.t7_base.specs.declared.public.Public.TheVariants.{Add, Modify, SamePriority, Delete, MassDelete, Summary, Full, Partial}
use Rattle.t7_book.specs.declared.order.Order.{Order}
use Rattle.t7_book.specs.declared.trade.Trade.{Trade}
use Rattle.t7_book.specs.declared.command.BookRefusal.TheVariants.{BelowExecuted, BookFull}
use Rattle.t7_book.specs.Orders.{same_name, without, with_left, with_order, renewed, order_of, is_order, is_in}
use Rattle.t7_book.specs.Commands.{executed_of, with_total, changed_order, is_full, change_refusal}
use Rattle.t7_book.specs.Trades.{traded, is_used_up, after_trade, after_trades, execution}
use Rattle.t7_book.specs.Steps.{Effect, list_after, executions, remainder, crossing, arrival, change, deletions, cancellation}
use Rattle.t7_book.specs.Laws.{Each, Distinct, IsWhole}
use Rattle.t7_book.proofs.StepLemmas.{list_after_executions, length_after_trades}
use Rattle.t7_book.proofs.Lists.{IsIn, each_at, in_filter, found_in, other_name}
use Rattle.t7_book.proofs.Fit.{Known, IsFit, fit_filter, fit_renewed, fit_placed, fit_later, whole_left, whole_changed}
use Rattle.t7_book.proofs.Makers.{AreMakers, makers_after}

-- What a relation between a list, a message and the list after it owes: it holds of each kind of step.
pub record Links (roster : Roster) (R : List Order → Public → List Order → Type 0) : Type 0 where
  pub add : (last : ℕ) (orders : List Order) → IsFit roster last orders → (x : Order) → last < x.rest.stamp → Contains roster.securities x.rest.security → length orders + 1 ≤ 20_000
      → R orders (Add x.rest) (with_order roster.securities x orders)
  pub summary : (last : ℕ) (orders : List Order) → IsFit roster last orders → (security : ℤ) (side : Side) (stamp qty : ℕ) (price : ℤ) → Contains roster.securities security
      → R orders (Summary security side stamp qty price) orders
  pub mass : (last : ℕ) (orders : List Order) → IsFit roster last orders → (security : ℤ) → Contains roster.securities security
      → R orders (MassDelete security) (filter (λ y. not (is_in security y)) orders)
  pub delete : (last : ℕ) (orders : List Order) → IsFit roster last orders → (y : Order) → IsIn y orders
      → R orders (Delete y.rest) (without y.rest orders)
  pub full : (last : ℕ) (orders : List Order) → IsFit roster last orders → (y : Order) → IsIn y orders → (qty : ℕ) → qty ≡ y.rest.qty
      → R orders (Full y.rest.security y.rest.side y.rest.stamp y.rest.price qty y.rest.price) (without y.rest orders)
  pub part : (last : ℕ) (orders : List Order) → IsFit roster last orders → (y : Order) → IsIn y orders → (qty : ℕ) → qty < y.rest.qty
      → R orders (Partial y.rest.security y.rest.side y.rest.stamp y.rest.price qty y.rest.price) (renewed (with_left y (y.rest.qty - qty)) orders)
  pub same : (last : ℕ) (orders : List Order) → IsFit roster last orders → (y : Order) → IsIn y orders → (qty : ℕ)
      → R orders (SamePriority y.rest.security y.rest.side y.rest.stamp y.rest.price y.rest.qty (with_total y qty).rest.qty) (renewed (with_total y qty) orders)
  pub modify : (last : ℕ) (orders : List Order) → IsFit roster last orders → (y : Order) → IsIn y orders → (price : ℤ) (total stamp : ℕ) → last < stamp
      → (let x = changed_order y price total stamp in
      R orders (Modify x.rest.security x.rest.side y.rest.stamp y.rest.price y.rest.qty x.rest.stamp x.rest.price x.rest.qty) (with_order roster.securities x (without y.rest orders)))

-- the orders stand in the list, each once
abbrev pub AreGone : List Order → List Order → Type 0
AreGone [] orders = Unit {0}
AreGone (y ∷ ys) orders = IsIn y orders × Each (λ z. z.rest.stamp ≢ y.rest.stamp) ys × AreGone ys orders

pub gone_from : (gone orders : List Order) → Distinct gone → Each (λ y. IsIn y orders) gone → AreGone gone orders
gone_from [] orders d all = tt
gone_from (y ∷ ys) orders d all = (all.0, d.0, gone_from ys orders d.1 all.1)

pub gone_after : (y : Order) (gone orders : List Order) → Each (λ z. z.rest.stamp ≢ y.rest.stamp) gone → AreGone gone orders → AreGone gone (without y.rest orders)
gone_after y [] orders differ all = tt
gone_after y (z ∷ zs) orders differ all =
    (in_filter (λ w. not (same_name y.rest w.rest)) z orders (ap not (other_name y.rest z.rest differ.0)) all.0, all.1, gone_after y zs orders differ.1 all.2)

-- a New that isn't refused has room
pub room_from : (orders : List Order) (security : ℤ) → (cond (is_full orders security) (Some BookFull) None) ≡ None → length orders + 1 ≤ 20_000
room_from orders security accepted = elim (cases_Bool (is_full orders security)) [
  | inl full ↦ absurd (let e : Some BookFull ≡ None = rw full at accepted in cc)
  | inr open_still ↦ let less = leb-false 20_000 (length orders) (or_parts (nat_le 20_000 (length orders)) _ open_still).0 in omega arith
]

-- a Modify that isn't refused has a total above what was executed
pub above_from : (y : Order) (qty : ℕ) → change_refusal (Some y) qty ≡ None → executed_of y ≤ qty
above_from y qty accepted = elim (cases_Bool (nat_le qty (executed_of y))) [
  | inl below ↦ absurd (let e : Some BelowExecuted ≡ None = rw below at accepted in cc)
  | inr above ↦ let less = leb-false qty (executed_of y) above in omega arith
]

-- each step is related, and each list is fit for the last stamp
abbrev pub Run : (roster : Roster) → (List Order → Public → List Order → Type 0) → ℕ → List Order → List Effect → Type 0
Run roster R last orders [] = IsFit roster last orders
Run roster R last orders (s ∷ ss) = IsFit roster last orders × R orders s.0 s.1 × Run roster R last s.1 ss

module _ (roster : Roster) (R : List Order → Public → List Order → Type 0) (links : Links roster R) where
  pub run_append : (last later : ℕ) (orders : List Order) (a b : List Effect) → last ≤ later
      → Run roster R last orders a → (IsFit roster last (list_after a orders) → Run roster R later (list_after a orders) b) → Run roster R later orders (a ++ b)
  run_append last later orders [] b le run next = next run
  run_append last later orders (s ∷ ss) b le run next = (fit_later roster last later orders le run.0, run.1, run_append last later s.1 ss b le run.2 next)

  module _ (last : ℕ) where
    -- a trade
    execution_links : (t : Trade) (orders : List Order) → IsFit roster last orders → IsIn t.maker orders → t.qty ≤ t.maker.rest.qty → R orders (execution t) (after_trade t orders)
    execution_links t orders fit at le = elim (cases_Bool (is_used_up t)) [
      | inl used ↦
          let all : t.qty ≡ t.maker.rest.qty = let ge = leb-true t.maker.rest.qty t.qty used in omega arith in
          rw used (links.full last orders fit t.maker at t.qty all)
      | inr open_still ↦
          let less = leb-false t.maker.rest.qty t.qty open_still in
          rw open_still (links.part last orders fit t.maker at t.qty less)
    ]

    execution_fit : (t : Trade) (orders : List Order) → IsFit roster last orders → IsIn t.maker orders → IsFit roster last (after_trade t orders)
    execution_fit t orders fit at =
        let maker = each_at (Known roster last) t.maker orders fit.known at in
        let left = t.maker.rest.qty - t.qty in
        let whole = whole_left t.maker left (omega (arith, maker.whole.within)) in
        elim (is_used_up t) as (λ b. IsFit roster last (cond b (without t.maker.rest orders) (renewed (with_left t.maker left) orders))) [
          | true ↦ fit_filter roster last (λ z. not (same_name t.maker.rest z.rest)) orders fit
          | false ↦ fit_renewed roster last (with_left t.maker left) t.maker orders at refl whole fit
        ]

    run_executions : (ts : List Trade) (orders : List Order) → IsFit roster last orders → AreMakers ts orders → Run roster R last orders (executions ts orders)
    run_executions [] orders fit makers = fit
    run_executions (t ∷ ts) orders fit makers =
        (fit, execution_links t orders fit makers.0 makers.1, run_executions ts (after_trade t orders) (execution_fit t orders fit makers.0) (makers_after t ts orders makers.2 makers.3))

    pub run_deletions : (gone orders : List Order) → IsFit roster last orders → AreGone gone orders → Run roster R last orders (deletions gone orders)
    run_deletions [] orders fit all = fit
    run_deletions (y ∷ ys) orders fit all =
        (fit, links.delete last orders fit y all.0, run_deletions ys (without y.rest orders) (fit_filter roster last (λ z. not (same_name y.rest z.rest)) orders fit) (gone_after y ys orders all.1 all.2))

    -- an order with a new stamp
    module _ (x : Order) (above : last < x.rest.stamp) (listed : Contains roster.securities x.rest.security) (whole : IsWhole x) where
      run_remainder : (left : ℕ) (orders : List Order) → left ≤ x.rest.qty → length orders + 1 ≤ 20_000 → IsFit roster last orders → Run roster R x.rest.stamp orders (remainder roster.securities x left orders)
      run_remainder zero orders le room fit = fit_later roster last x.rest.stamp orders (omega arith) fit
      run_remainder (suc n) orders le room fit = (
        fit_later roster last x.rest.stamp orders (omega arith) fit,
        links.add last orders fit (with_left x (suc n)) above listed room,
        fit_placed roster last (with_left x (suc n)) orders above listed (whole_left x (suc n) (omega (arith, le, whole.within))) room fit,
      )

      run_crossing : (ts : List Trade) (orders : List Order) → length orders + 1 ≤ 20_000 → IsFit roster last orders → AreMakers ts orders → Run roster R x.rest.stamp orders (crossing roster.securities x ts orders)
      run_crossing ts orders room fit makers =
          let left = x.rest.qty - traded ts in
          let rest = remainder roster.securities x left (after_trades ts orders) in
          let ends : list_after (executions ts orders) orders ≡ after_trades ts orders = list_after_executions ts orders in
          let fewer = length_after_trades ts orders in
          let le : left ≤ x.rest.qty = omega arith in (
            fit_later roster last x.rest.stamp orders (omega arith) fit,
            links.summary last orders fit _ _ _ _ _ listed,
            run_append last x.rest.stamp orders (executions ts orders) rest (omega arith) (run_executions ts orders fit makers)
                (λ after. subst (λ (l : List Order). Run roster R x.rest.stamp l rest) (sym ends) (run_remainder left (after_trades ts orders) le (omega arith) (subst (IsFit roster last) ends after))),
          )

      pub run_arrival : (ts : List Trade) (orders : List Order) → length orders + 1 ≤ 20_000 → IsFit roster last orders → AreMakers ts orders → Run roster R x.rest.stamp orders (arrival roster.securities x ts orders)
      run_arrival [] orders room fit makers =
          (fit_later roster last x.rest.stamp orders (omega arith) fit, links.add last orders fit x above listed room, fit_placed roster last x orders above listed whole room fit)
      run_arrival (t ∷ ts) orders room fit makers = run_crossing (t ∷ ts) orders room fit makers

    pub run_change : (y : Order) (price : ℤ) (total stamp : ℕ) (orders : List Order) → last < stamp → IsIn y orders → executed_of y ≤ total → length (without y.rest orders) + 1 ≤ 20_000 → IsFit roster last orders
        → (ts : List Trade) → AreMakers ts (without y.rest orders) → Run roster R stamp orders (change roster.securities y (changed_order y price total stamp) ts (without y.rest orders))
    run_change y price total stamp orders above at le room fit [] makers =
        let known = each_at (Known roster last) y orders fit.known at in
        let rest = fit_filter roster last (λ z. not (same_name y.rest z.rest)) orders fit in
        let x = changed_order y price total stamp in
        (fit_later roster last stamp orders (omega arith) fit, links.modify last orders fit y at price total stamp above, fit_placed roster last x (without y.rest orders) above known.listed (whole_changed y price total stamp known.whole le) room rest)
    run_change y price total stamp orders above at le room fit (t ∷ ts) makers =
        let known = each_at (Known roster last) y orders fit.known at in
        let rest = fit_filter roster last (λ z. not (same_name y.rest z.rest)) orders fit in
        let x = changed_order y price total stamp in
        (fit_later roster last stamp orders (omega arith) fit, links.delete last orders fit y at, run_crossing x above known.listed (whole_changed y price total stamp known.whole le) (t ∷ ts) (without y.rest orders) room rest makers)

  pub run_cancellation : (last session id : ℕ) (orders : List Order) (o : Option Order) → IsFit roster last orders → order_of orders session id ≡ o → Run roster R last orders (cancellation o orders)
  run_cancellation last session id orders None fit found = fit
  run_cancellation last session id orders (Some y) fit found =
      let at = found_in (is_order session id) y orders found in
      (fit, links.delete last orders fit y at, fit_filter roster last (λ z. not (same_name y.rest z.rest)) orders fit)
