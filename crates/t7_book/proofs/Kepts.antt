-- What a book keeps while an order of its list is renewed, and where an order comes in.
use Rattle.std.proofs.Common.{◌≡◌, ◌≢◌, ℕ, ℤ, ◌<◌, ◌-◌, Bool, true, false, not, cond, List, [], ◌∷◌, length, map, Some, refl, sym, ap, subst, ◌∙◌, inl, inr, arith}
use Rattle.std.specs.Prelude.{IfSome}
use Rattle.std.specs.List.{find}
use Rattle.std.specs.Ordering.{nat_cmp}
use Rattle.std.proofs.lemmas.Bool.{cases_Bool}
use Rattle.t7_base.specs.declared.public.Resting.{Resting}
use Rattle.t7_levels.specs.Chain as chain
use Rattle.t7_levels.specs.Index as index
use Rattle.t7_levels.specs.Side.{Once}
use Rattle.t7_book.specs.declared.kept.Kept.{Kept}
use Rattle.t7_book.specs.declared.order.Order.{Order}
use Rattle.t7_book.specs.declared.trade.Trade.{Trade}
use Rattle.t7_book.specs.Orders.{same_name, without, with_left, renewed, order_of, is_order}
use Rattle.t7_book.specs.Trades.{after_trade, after_trades, is_used_up, trades}
use Rattle.t7_book.specs.Laws.{Each, Distinct}
use Rattle.t7_book.specs.Numbers.{is_listed, number_of, rank_of_price}
use Rattle.t7_book.specs.Kept.{IsNumbered, OrderList, MayEnter, Stands, orders_in}
use Rattle.t7_book.proofs.InOrder as in_order
use Rattle.t7_book.proofs.Lists.{IsIn, each_at, each_weaker, each_filter, each_renewed, found_in, stands}
use Rattle.t7_book.proofs.Makers.{AreMakers, makers_after, trades_makers}
use Rattle.t7_book.proofs.StepLemmas.{length_after_trades}
use Rattle.t7_book.proofs.Numbered.{is_named, named, ranked, stamped, numbered}
use Rattle.t7_book.proofs.Ids.{id_of, ids_alike, in_list, others_differ}

module _ (securities : List ℤ) where
  pub listed_each : (list : List Kept) → chain.Each (IsNumbered securities) list → Each (λ y. is_listed securities y.rest.security ≡ true) (orders_in list)
  listed_each [] each = tt
  listed_each (k ∷ ks) each = (each.0.listed, listed_each ks each.1)

  -- an order of the list with other quantities
  module _ (v : Kept) (y : Order) (at_v : IsNumbered securities v) (id : y.id ≡ v.order.id) (same : v.order.rest ≡ record y.rest { qty = v.order.rest.qty }) where
    abbrev Alike : Kept → Kept → Type 0
    Alike v kept = (numbered v ≡ numbered kept) × (ranked v ≡ ranked kept) × (stamped v ≡ stamped kept) × (named v ≡ named kept)

    alike : (k : Kept) → IsNumbered securities k → k.order ≡ y → Alike v k
    alike k at is =
        let number : v.number ≡ k.number =
        at_v.number ∙ ap (λ (r : Resting). number_of securities r.security r.side) same ∙ sym (ap (λ (z : Order). number_of securities z.rest.security z.rest.side) is) ∙ sym at.number in (
          number,
          ap (λ (r : Resting). rank_of_price r.side r.price) same ∙ sym (ap (λ (z : Order). rank_of_price z.rest.side z.rest.price) is),
          ap (λ (r : Resting). r.stamp) same ∙ sym (ap (λ (z : Order). z.rest.stamp) is),
          sym id ∙ sym (ap id_of is),
        )

    -- the levels may take the new value
    pub renewable : (list : List Kept) → chain.Each (IsNumbered securities) list → chain.Each (λ (k : Kept). is_named v.order.id k ≡ same_name v.order.rest k.order.rest) list
        → Each (λ z. same_name y.rest z.rest ≡ true → z ≡ y) (orders_in list) → IfSome (find (is_named v.order.id) list) (Alike v)
    renewable [] each test only = tt
    renewable (k ∷ ks) each test only = elim (cases_Bool (is_named v.order.id k)) [
      | inl here ↦
          let is : k.order ≡ y = only.0 (ap (λ (r : Resting). same_name r k.order.rest) (sym same) ∙ sym test.0 ∙ here) in
          rw here (alike k each.0 is)
      | inr there ↦ rw there (renewable ks each.1 test.1 only.1)
    ]

    pub requantified : (ys : List Order) → Each (λ z. same_name y.rest z.rest ≡ true → z ≡ y) ys → Each (in_order.Requantifies securities v.order) ys
    requantified ys only =
        each_weaker (λ z. same_name y.rest z.rest ≡ true → z ≡ y) (in_order.Requantifies securities v.order)
        (λ z one name.
        let is = one (ap (λ (r : Resting). same_name r z.rest) (sym same) ∙ name) in
        subst (λ (w : Order). v.order.rest ≡ record w.rest { qty = v.order.rest.qty }) (sym is) same) ys only

  pub renewed_numbered : (v : Kept) (list : List Kept) → IsNumbered securities v → chain.Each (IsNumbered securities) list → chain.Each (IsNumbered securities) (map (index.renewed named nat_cmp v) list)
  renewed_numbered v [] at_v each = tt
  renewed_numbered v (k ∷ ks) at_v each = (elim (is_named v.order.id k) as (λ b. IsNumbered securities (cond b v k)) [ true ↦ at_v | false ↦ each.0 ], renewed_numbered v ks at_v each.1)

by_test : (b c : Bool) (v k : Kept) → b ≡ c → (cond b v k).order ≡ cond c v.order k.order
by_test b c v k is = ap (λ (d : Bool). (cond d v k).order) is ∙ both c
  where
    both : (c : Bool) → (cond c v k).order ≡ cond c v.order k.order
    both true = refl
    both false = refl

pub renewed_shown : (v : Kept) (list : List Kept) → chain.Each (λ (k : Kept). is_named v.order.id k ≡ same_name v.order.rest k.order.rest) list → orders_in (map (index.renewed named nat_cmp v) list) ≡ renewed v.order (orders_in list)
renewed_shown v [] test = refl
renewed_shown v (k ∷ ks) test =
    let rest = renewed_shown v ks test.1 in
    let head : (cond (is_named v.order.id k) v k).order ≡ cond (same_name v.order.rest k.order.rest) v.order k.order = by_test (is_named v.order.id k) (same_name v.order.rest k.order.rest) v k test.0 in
    cc (head, rest)

-- x has the name and the id of the order that it was
pub renewed_alike : (x y : Order) (list : List Kept) → y.id ≡ x.id → x.rest ≡ record y.rest { qty = x.rest.qty } → chain.Each (λ (k : Kept). is_named y.id k ≡ same_name y.rest k.order.rest) list
    → chain.Each (λ (k : Kept). is_named x.id k ≡ same_name x.rest k.order.rest) list
renewed_alike x y list id same test =
    subst (λ (r : Resting). chain.Each (λ (k : Kept). is_named x.id k ≡ same_name r k.order.rest) list) (sym same)
    (subst (λ (n : ℕ). chain.Each (λ (k : Kept). is_named n k ≡ same_name y.rest k.order.rest) list) id test)

-- the order that was found by its id and its owner
pub found_stands : (session id : ℕ) (y : Order) (ys : List Order) → Distinct ys → order_of ys session id ≡ Some y → Stands ys y
found_stands session id y ys distinct found = stands y ys distinct (found_in (is_order session id) y ys found)

-- a property that no quantity changes holds after trades
pub each_trade : (P : Order → Type 0) → ((y : Order) (left : ℕ) → P y → P (with_left y left)) → (t : Trade) (ys : List Order) → IsIn t.maker ys → Each P ys → Each P (after_trade t ys)
each_trade P keeps t ys at each =
    let left = t.maker.rest.qty - t.qty in
    let maker = each_at P t.maker ys each at in
    elim (is_used_up t) as (λ b. Each P (cond b (without t.maker.rest ys) (renewed (with_left t.maker left) ys))) [
      | true ↦ each_filter (λ z. not (same_name t.maker.rest z.rest)) P ys each
      | false ↦ each_renewed P (with_left t.maker left) (λ z h. elim (same_name t.maker.rest z.rest) as (λ b. P (cond b (with_left t.maker left) z)) [ true ↦ keeps t.maker left maker | false ↦ h ]) ys each
    ]

pub each_trades : (P : Order → Type 0) → ((y : Order) (left : ℕ) → P y → P (with_left y left)) → (ts : List Trade) (ys : List Order) → AreMakers ts ys → Each P ys → Each P (after_trades ts ys)
each_trades P keeps [] ys makers each = each
each_trades P keeps (t ∷ ts) ys makers each =
    each_trades P keeps ts (after_trade t ys) (makers_after t ts ys makers.2 makers.3) (each_trade P keeps t ys makers.0 each)

-- what is left of an incoming order may enter after its trades
pub enters_after : (o : OrderList) (x : Order) (left : ℕ) → Distinct o.list → MayEnter o x → MayEnter (record { securities = o.securities; list = after_trades (trades x.rest o.list) o.list }) (with_left x left)
enters_after o x left distinct enters =
    let ts = trades x.rest o.list in
    let makers = trades_makers x.rest o.list distinct in
    let fewer = length_after_trades ts o.list in
    record {
      listed = enters.listed;
      room = omega (arith, fewer, enters.room);
      new_stamp = each_trades (λ y. y.rest.stamp ≢ x.rest.stamp) (λ y left differ. differ) ts o.list makers enters.new_stamp;
      new_id = each_trades (λ y. y.id ≢ x.id) (λ y left differ. differ) ts o.list makers enters.new_id;
    }

-- an order that takes a new stamp may enter where it was taken out
pub enters_again : (o : OrderList) (y x : Order) → Distinct o.list → Once id_of o.list → Stands o.list y → x.id ≡ y.id → is_listed o.securities x.rest.security ≡ true → length (without y.rest o.list) < 20_000
    → Each (λ z. z.rest.stamp ≢ x.rest.stamp) o.list → MayEnter (record { securities = o.securities; list = without y.rest o.list }) x
enters_again o y x distinct once here id listed room new =
    let differ = others_differ y o.list (ids_alike y o.list distinct once (in_list y o.list here)) in
    record {
      listed = listed;
      room = room;
      new_stamp = each_filter (λ z. not (same_name y.rest z.rest)) (λ z. z.rest.stamp ≢ x.rest.stamp) o.list new;
      new_id = subst (λ (n : ℕ). Each (λ z. z.id ≢ n) (without y.rest o.list)) (sym id) differ;
    }
