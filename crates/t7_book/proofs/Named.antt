-- The orders of each list that commands give have ids of their own, and no security has more than 10,000 of them.
use Rattle.std.proofs.Common.{◌≡◌, ◌≢◌, ℕ, ◌+◌, ◌-◌, ◌<◌, ◌≤◌, ℤ, Bool, true, false, not, cond, List, [], ◌∷◌, length, refl, ap, sym, subst, ◌∙◌, inl, inr, arith}
use Rattle.std.specs.List.{filter}
use Rattle.std.specs.Ordering.{int_eq}
use Rattle.std.proofs.lemmas.Bool.{cases_Bool}
use Rattle.std.proofs.lemmas.Bool.Decides.{Decides-int_eq}
use Rattle.t7_base.specs.declared.public.Resting.{Resting}
use Rattle.t7_book.specs.declared.order.Order.{Order}
use Rattle.t7_book.specs.declared.trade.Trade.{Trade}
use Rattle.t7_book.specs.Orders.{is_in, placed, renewed, renewed_order, same_name, with_left, without}
use Rattle.t7_book.specs.Trades.{after_trade, after_trades, is_used_up}
use Rattle.t7_book.specs.Laws.{Each, Distinct, DistinctIds}
use Rattle.t7_book.proofs.Counting.{as_one, count_placed, count_renewed, count_without}
use Rattle.t7_book.proofs.Kepts.{each_trades}
use Rattle.t7_book.proofs.Lists.{IsIn, distinct_filter, distinct_renewed, each_at, each_filter, each_placed, each_weaker, only_named, other_name}
use Rattle.t7_book.proofs.Makers.{AreMakers, makers_after}
use Rattle.t7_book.proofs.TradeLemmas.{same_name_refl}

-- no two orders have one id, and no security has more than 10,000 orders
pub record IsNamed (orders : List Order) : Type 0 where
  pub ids : DistinctIds orders
  pub few_of_each : (security : ℤ) → length (filter (is_in security) orders) ≤ 10_000

-- orders are taken out
few_filter : (p q : Order → Bool) (ys : List Order) → length (filter q (filter p ys)) ≤ length (filter q ys)
few_filter p q [] = omega arith
few_filter p q (y ∷ ys) =
    let rest = few_filter p q ys in
    elim (p y) as (λ b. length (filter q (cond b (y ∷ filter p ys) (filter p ys))) ≤ length (cond (q y) (y ∷ filter q ys) (filter q ys))) [
      | true ↦ elim (q y) as (λ b. length (cond b (y ∷ filter q (filter p ys)) (filter q (filter p ys))) ≤ length (cond b (y ∷ filter q ys) (filter q ys))) [ true ↦ omega (arith, rest) | false ↦ rest ]
      | false ↦ elim (q y) as (λ b. length (filter q (filter p ys)) ≤ length (cond b (y ∷ filter q ys) (filter q ys))) [ true ↦ omega (arith, rest) | false ↦ rest ]
    ]

ids_filter : (p : Order → Bool) (ys : List Order) → DistinctIds ys → DistinctIds (filter p ys)
ids_filter p [] d = tt
ids_filter p (y ∷ ys) d = elim (p y) as (λ b. DistinctIds (cond b (y ∷ filter p ys) (filter p ys))) [
  | true ↦ (each_filter p (λ z. z.id ≢ y.id) ys d.0, ids_filter p ys d.1)
  | false ↦ ids_filter p ys d.1
]

pub named_filter : (p : Order → Bool) (ys : List Order) → IsNamed ys → IsNamed (filter p ys)
named_filter p ys named = record {
  ids = ids_filter p ys named.ids;
  few_of_each = λ security. let fewer = few_filter p (is_in security) ys in omega (arith, fewer, named.few_of_each security);
}

-- an order gets other quantities
module _ (x : Order) where
  abbrev Keeps : Order → Type 0
  Keeps z = same_name x.rest z.rest ≡ true → z.id ≡ x.id

  id_renewed : (z : Order) → Keeps z → (renewed_order x z).id ≡ z.id
  id_renewed z keeps = elim (cases_Bool (same_name x.rest z.rest)) [
    | inl named ↦ rw named (sym (keeps named))
    | inr other ↦ rw other refl
  ]

  other_ids : (id : ℕ) (ys : List Order) → Each Keeps ys → Each (λ z. z.id ≢ id) ys → Each (λ z. z.id ≢ id) (renewed x ys)
  other_ids id [] all h = tt
  other_ids id (z ∷ zs) all h = (λ e. h.0 (sym (id_renewed z all.0) ∙ e), other_ids id zs all.1 h.1)

  ids_renewed : (ys : List Order) → Each Keeps ys → DistinctIds ys → DistinctIds (renewed x ys)
  ids_renewed [] all d = tt
  ids_renewed (y ∷ ys) all d =
      (subst (λ (id : ℕ). Each (λ z. z.id ≢ id) (renewed x ys)) (sym (id_renewed y all.0)) (other_ids y.id ys all.1 d.0), ids_renewed ys all.1 d.1)

  -- x is the order y of the list with other quantities
  module _ (y : Order) (ys : List Order) (at : IsIn y ys) (distinct : Distinct ys) (id : x.id ≡ y.id) (same : x.rest ≡ record y.rest { qty = x.rest.qty }) where
    only_x : Each (λ z. same_name x.rest z.rest ≡ true → z ≡ y) ys
    only_x = subst (λ (r : Resting). Each (λ z. same_name r z.rest ≡ true → z ≡ y) ys) (sym same) (only_named y ys distinct at)

    pub renewed_count : (security : ℤ) → length (filter (is_in security) (renewed x ys)) ≡ length (filter (is_in security) ys)
    renewed_count security =
        count_renewed (is_in security) x ys
        (each_weaker (λ z. same_name x.rest z.rest ≡ true → z ≡ y) (λ z. same_name x.rest z.rest ≡ true → is_in security x ≡ is_in security z)
        (λ z only named. ap (λ (r : Resting). int_eq r.security security) same ∙ sym (ap (is_in security) (only named))) ys only_x)

    pub named_renewed : IsNamed ys → IsNamed (renewed x ys)
    named_renewed named = record {
      ids = ids_renewed ys (each_weaker (λ z. same_name x.rest z.rest ≡ true → z ≡ y) Keeps (λ z only h. ap (λ (w : Order). w.id) (only h) ∙ sym id) ys only_x) named.ids;
      few_of_each = λ security. let e = renewed_count security in omega (arith, e, named.few_of_each security);
    }

-- x may come into the list: its id is new, and its security has room
pub record MayCome (x : Order) (orders : List Order) : Type 0 where
  pub new : Each (λ y. y.id ≢ x.id) orders
  pub room : length (filter (is_in x.rest.security) orders) < 10_000

ids_placed : (before : Order → Order → Bool) (x : Order) (ys : List Order) → Each (λ y. y.id ≢ x.id) ys → DistinctIds ys → DistinctIds (placed before x ys)
ids_placed before x [] new d = (tt, tt)
ids_placed before x (y ∷ ys) new d = elim (before y x) as (λ b. DistinctIds (cond b (y ∷ placed before x ys) (x ∷ y ∷ ys))) [
  | true ↦ (each_placed before x (λ z. z.id ≢ y.id) ys (λ e. new.0 (sym e)) d.0, ids_placed before x ys new.1 d.1)
  | false ↦ (new, d)
]

pub named_placed : (before : Order → Order → Bool) (x : Order) (ys : List Order) → MayCome x ys → IsNamed ys → IsNamed (placed before x ys)
named_placed before x ys comes named = record {
  ids = ids_placed before x ys comes.new named.ids;
  few_of_each = λ security.
      let long = count_placed (is_in security) before x ys in
      elim (cases_Bool (is_in security x)) [
        | inl here ↦
            let same : x.rest.security ≡ security = (Decides-int_eq x.rest.security security).0 here in
            let room = subst (λ (s : ℤ). length (filter (is_in s) ys) < 10_000) same comes.room in
            let more : length (filter (is_in security) (placed before x ys)) ≡ length (filter (is_in security) ys) + 1 = long ∙ ap (λ b. length (filter (is_in security) ys) + as_one b) here in
            omega (arith, more, room)
        | inr there ↦
            let more : length (filter (is_in security) (placed before x ys)) ≡ length (filter (is_in security) ys) + 0 = long ∙ ap (λ b. length (filter (is_in security) ys) + as_one b) there in
            omega (arith, more, named.few_of_each security)
      ];
}

-- a trade
pub distinct_after : (t : Trade) (orders : List Order) → Distinct orders → Distinct (after_trade t orders)
distinct_after t orders distinct =
    let x = with_left t.maker (t.maker.rest.qty - t.qty) in
    elim (is_used_up t) as (λ b. Distinct (cond b (without t.maker.rest orders) (renewed x orders))) [
      | true ↦ distinct_filter (λ z. not (same_name t.maker.rest z.rest)) orders distinct
      | false ↦ distinct_renewed x orders distinct
    ]

pub named_after : (t : Trade) (orders : List Order) → IsIn t.maker orders → Distinct orders → IsNamed orders → IsNamed (after_trade t orders)
named_after t orders at distinct named =
    let x = with_left t.maker (t.maker.rest.qty - t.qty) in
    elim (is_used_up t) as (λ b. IsNamed (cond b (without t.maker.rest orders) (renewed x orders))) [
      | true ↦ named_filter (λ z. not (same_name t.maker.rest z.rest)) orders named
      | false ↦ named_renewed x t.maker orders at distinct refl refl named
    ]

few_after : (security : ℤ) (t : Trade) (orders : List Order) → IsIn t.maker orders → Distinct orders → length (filter (is_in security) (after_trade t orders)) ≤ length (filter (is_in security) orders)
few_after security t orders at distinct =
    let x = with_left t.maker (t.maker.rest.qty - t.qty) in
    let e = renewed_count x t.maker orders at distinct refl refl security in
    elim (is_used_up t) as (λ b. length (filter (is_in security) (cond b (without t.maker.rest orders) (renewed x orders))) ≤ length (filter (is_in security) orders)) [
      | true ↦ few_filter (λ z. not (same_name t.maker.rest z.rest)) (is_in security) orders
      | false ↦ omega (arith, e)
    ]

few_after_all : (security : ℤ) (ts : List Trade) (orders : List Order) → AreMakers ts orders → Distinct orders → length (filter (is_in security) (after_trades ts orders)) ≤ length (filter (is_in security) orders)
few_after_all security [] orders makers distinct = omega arith
few_after_all security (t ∷ ts) orders makers distinct =
    let one = few_after security t orders makers.0 distinct in
    let rest = few_after_all security ts (after_trade t orders) (makers_after t ts orders makers.2 makers.3) (distinct_after t orders distinct) in
    omega (arith, one, rest)

pub comes_after : (x : Order) (ts : List Trade) (orders : List Order) → AreMakers ts orders → Distinct orders → MayCome x orders → MayCome x (after_trades ts orders)
comes_after x ts orders makers distinct comes = record {
  new = each_trades (λ y. y.id ≢ x.id) (λ y left differ. differ) ts orders makers comes.new;
  room = let fewer = few_after_all x.rest.security ts orders makers distinct in omega (arith, fewer, comes.room);
}

-- the other orders have other ids
others_new : (y : Order) (ys : List Order) → Distinct ys → DistinctIds ys → IsIn y ys → Each (λ z. z.id ≢ y.id) (without y.rest ys)
others_new y [] distinct ids at = absurd at
others_new y (z ∷ zs) distinct ids (inl same) =
    let named : same_name y.rest z.rest ≡ true = rw same (same_name_refl y.rest) in
    let others : Each (λ w. w.id ≢ y.id) zs = subst (λ (v : Order). Each (λ w. w.id ≢ v.id) zs) same ids.0 in
    rw named (each_filter (λ w. not (same_name y.rest w.rest)) (λ w. w.id ≢ y.id) zs others)
others_new y (z ∷ zs) distinct ids (inr later) =
    let other : same_name y.rest z.rest ≡ false = other_name y.rest z.rest (λ e. each_at (λ w. w.rest.stamp ≢ z.rest.stamp) y zs distinct.0 later (sym e)) in
    rw other ((λ e. each_at (λ w. w.id ≢ z.id) y zs ids.0 later (sym e)), others_new y zs distinct.1 ids.1 later)

-- an order of the list may come again where it was taken out
pub comes_again : (y x : Order) (ys : List Order) → Distinct ys → IsNamed ys → IsIn y ys → x.id ≡ y.id → x.rest.security ≡ y.rest.security → MayCome x (without y.rest ys)
comes_again y x ys distinct named at id security =
    let here : is_in y.rest.security y ≡ true = (Decides-int_eq y.rest.security y.rest.security).1 refl in
    let fewer : length (filter (is_in y.rest.security) ys) ≡ length (filter (is_in y.rest.security) (without y.rest ys)) + 1 =
    count_without (is_in y.rest.security) y ys distinct at ∙ ap (λ b. length (filter (is_in y.rest.security) (without y.rest ys)) + as_one b) here in
    let room : length (filter (is_in y.rest.security) (without y.rest ys)) < 10_000 = omega (arith, fewer, named.few_of_each y.rest.security) in
    record {
      new = subst (λ (n : ℕ). Each (λ z. z.id ≢ n) (without y.rest ys)) (sym id) (others_new y ys distinct named.ids at);
      room = subst (λ (s : ℤ). length (filter (is_in s) (without y.rest ys)) < 10_000) (sym security) room;
    }
