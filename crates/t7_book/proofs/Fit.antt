-- What every list of orders of an exchange keeps.
use Rattle.std.proofs.Common.{◌≡◌, ◌≢◌, ℕ, ◌+◌, ◌-◌, ◌<◌, ◌≤◌, ℤ, pos, Bool, true, List, length, ap, sym, subst, ◌∙◌, inl, inr, arith}
use Rattle.std.specs.List.{filter, Contains}
use Rattle.std.proofs.lemmas.Bool.{cases_Bool}
use Rattle.std.proofs.lemmas.Int.{ints}
use Rattle.t7_book.specs.Orders.{Roster}
use Rattle.t7_base.specs.declared.public.Resting.{Resting}
use Rattle.t7_book.specs.declared.order.Order.{Order}
use Rattle.t7_book.specs.Orders.{goes_before, same_name, with_order, with_left, renewed, renewed_order}
use Rattle.t7_book.specs.Commands.{executed_of, with_total, changed_order}
use Rattle.t7_book.specs.Laws.{Each, Distinct, IsInOrder, IsWhole}
use Rattle.t7_book.proofs.ListLemmas.{length_filter_le}
use Rattle.t7_book.proofs.Lists.{IsIn, each_at, each_weaker, each_filter, distinct_filter, each_placed, distinct_placed, length_placed, each_renewed, distinct_renewed, length_renewed, only_named}
use Rattle.t7_book.proofs.InOrder.{in_order_placed, in_order_filter, in_order_renewed, Requantifies}

-- the stamp is at most the last, the security is the product's, and what is left is the total less what was executed
pub record Known (roster : Roster) (last : ℕ) (y : Order) : Type 0 where
  pub stamp : y.rest.stamp ≤ last
  pub listed : Contains roster.securities y.rest.security
  pub whole : IsWhole y

pub record IsFit (roster : Roster) (last : ℕ) (orders : List Order) : Type 0 where
  pub distinct : Distinct orders
  pub in_order : IsInOrder roster.securities orders
  pub known : Each (Known roster last) orders
  pub few : length orders ≤ 20_000

-- the order of which this much is left
pub whole_left : (y : Order) (left : ℕ) → left ≤ y.total → IsWhole (with_left y left)
whole_left y left le = record { within = le; executed = omega (arith, ints) }

-- the order with a new total
pub whole_total : (y : Order) (qty : ℕ) → IsWhole y → executed_of y ≤ qty → IsWhole (with_total y qty)
whole_total y qty whole le =
    let back : executed_of y ≡ qty - (qty - executed_of y) = omega arith in
    record { within = omega arith; executed = whole.executed ∙ ap pos back }

pub whole_changed : (y : Order) (price : ℤ) (qty stamp : ℕ) → IsWhole y → executed_of y ≤ qty → IsWhole (changed_order y price qty stamp)
whole_changed y price qty stamp whole le =
    let back : executed_of y ≡ qty - (qty - executed_of y) = omega arith in
    record { within = omega arith; executed = whole.executed ∙ ap pos back }

pub fit_filter : (roster : Roster) (last : ℕ) (p : Order → Bool) (orders : List Order) → IsFit roster last orders → IsFit roster last (filter p orders)
fit_filter roster last p orders fit = record {
  distinct = distinct_filter p orders fit.distinct;
  in_order = in_order_filter roster.securities p orders fit.in_order;
  known = each_filter p (Known roster last) orders fit.known;
  few = let le = length_filter_le p orders in omega (arith, fit.few);
}

-- the order y of the list becomes x, which differs from it by quantities
pub fit_renewed : (roster : Roster) (last : ℕ) (x y : Order) (orders : List Order) → IsIn y orders → x.rest ≡ record y.rest { qty = x.rest.qty } → IsWhole x
    → IsFit roster last orders → IsFit roster last (renewed x orders)
fit_renewed roster last x y orders at same whole fit = record {
  distinct = distinct_renewed x orders fit.distinct;
  in_order = in_order_renewed roster.securities x orders all fit.in_order;
  known = each_renewed (Known roster last) x keeps orders fit.known;
  few = let long = length_renewed x orders in omega (arith, fit.few);
}
  where
    named_too : (z : Order) → same_name x.rest z.rest ≡ true → same_name y.rest z.rest ≡ true
    named_too z named = subst (λ (r : Resting). same_name r z.rest ≡ true) same named

    requantifies : (z : Order) → (same_name y.rest z.rest ≡ true → z ≡ y) → Requantifies roster.securities x z
    requantifies z only named = subst (λ (w : Order). x.rest ≡ record w.rest { qty = x.rest.qty }) (sym (only (named_too z named))) same

    all : Each (Requantifies roster.securities x) orders
    all = each_weaker (λ z. same_name y.rest z.rest ≡ true → z ≡ y) (Requantifies roster.securities x) requantifies orders (only_named y orders fit.distinct at)

    here : Known roster last y
    here = each_at (Known roster last) y orders fit.known at

    known_x : Known roster last x
    known_x = record {
      stamp = subst (λ (r : Resting). r.stamp ≤ last) (sym same) here.stamp;
      listed = subst (λ (r : Resting). Contains roster.securities r.security) (sym same) here.listed;
      whole = whole;
    }

    keeps : (z : Order) → Known roster last z → Known roster last (renewed_order x z)
    keeps z h = elim (cases_Bool (same_name x.rest z.rest)) [ inl named ↦ rw named known_x | inr other ↦ rw other h ]

-- a stamp above the last is new
pub fresh : (roster : Roster) (last stamp : ℕ) (orders : List Order) → IsFit roster last orders → last < stamp → Each (λ y. y.rest.stamp ≢ stamp) orders
fresh roster last stamp orders fit above = each_weaker (Known roster last) (λ y. y.rest.stamp ≢ stamp) (λ y known e. omega (arith, known.stamp, e, above)) orders fit.known

pub fit_later : (roster : Roster) (last later : ℕ) (orders : List Order) → last ≤ later → IsFit roster last orders → IsFit roster later orders
fit_later roster last later orders le fit = record {
  distinct = fit.distinct;
  in_order = fit.in_order;
  known = each_weaker (Known roster last) (Known roster later) (λ y known. record { stamp = omega (arith, known.stamp, le); listed = known.listed; whole = known.whole }) orders fit.known;
  few = fit.few;
}

-- an order comes to rest
pub fit_placed : (roster : Roster) (last : ℕ) (x : Order) (orders : List Order) → last < x.rest.stamp → Contains roster.securities x.rest.security → IsWhole x → length orders + 1 ≤ 20_000
    → IsFit roster last orders → IsFit roster x.rest.stamp (with_order roster.securities x orders)
fit_placed roster last x orders above listed whole room fit =
    let before : Order → Order → Bool = λ y z. goes_before roster.securities y.rest z.rest in
    let later = fit_later roster last x.rest.stamp orders (omega arith) fit in
    let new = fresh roster last x.rest.stamp orders fit above in
    record {
      distinct = distinct_placed before x orders new fit.distinct;
      in_order = in_order_placed roster.securities x orders new fit.in_order;
      known = each_placed before x (Known roster x.rest.stamp) orders (record { stamp = omega arith; listed = listed; whole = whole }) later.known;
      few = let long = length_placed before x orders in omega (arith, room);
    }
