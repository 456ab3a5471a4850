-- The id of an order of a list is its name.
use Rattle.std.proofs.Common.{◌≡◌, ◌≢◌, ℕ, Bool, true, false, cond, ◌&&◌, List, [], ◌∷◌, Some, None, Option, refl, sym, ap, subst, ◌∙◌, inl, inr}
use Rattle.std.specs.Prelude.{◌==◌}
use Rattle.std.specs.List.{find}
use Rattle.std.proofs.lemmas.Bool.{cases_Bool, eqb-true, ne_eqb, eq-eqb}
use Rattle.t7_levels.specs.Chain as chain
use Rattle.t7_levels.specs.Side.{Once}
use Rattle.t7_book.specs.declared.kept.Kept.{Kept}
use Rattle.t7_book.specs.declared.order.Order.{Order}
use Rattle.t7_book.specs.Orders.{same_name, without, order_of, is_order}
use Rattle.t7_book.specs.Laws.{Each, Distinct}
use Rattle.t7_book.specs.Kept.{orders_in, owned, Stands}
use Rattle.t7_book.proofs.Lists.{IsIn, found_in, only_named}
use Rattle.t7_book.proofs.TradeLemmas.{same_name_refl}
use Rattle.t7_book.proofs.Numbered.{is_named, named, named_is}

abbrev pub id_of : Order → ℕ
id_of y = y.id

-- kept orders and orders
pub lifted : (P : Order → Type 0) (list : List Kept) → Each P (orders_in list) → chain.Each (λ (k : Kept). P k.order) list
lifted P [] each = tt
lifted P (k ∷ ks) each = (each.0, lifted P ks each.1)

pub once_shown : (list : List Kept) → Once named list → Once id_of (orders_in list)
once_shown [] once = tt
once_shown (k ∷ ks) once = (lowered ks once.0, once_shown ks once.1)
  where
    lowered : (list : List Kept) → chain.Each (λ (v : Kept). v.order.id ≢ k.order.id) list → chain.Each (λ (y : Order). y.id ≢ k.order.id) (orders_in list)
    lowered [] each = tt
    lowered (v ∷ vs) each = (each.0, lowered vs each.1)

-- an order of the list has its id alone
each_id : (P : Order → Type 0) (y : Order) (ys : List Order) → chain.Each P ys → IsIn y ys → P y
each_id P y [] h at = absurd at
each_id P y (z ∷ zs) h (inl same) = subst P same h.0
each_id P y (z ∷ zs) h (inr later) = each_id P y zs h.1 later

all_of : (P Q : Order → Type 0) → ((z : Order) → P z → Q z) → (ys : List Order) → chain.Each P ys → Each Q ys
all_of P Q f [] each = tt
all_of P Q f (z ∷ zs) each = (f z each.0, all_of P Q f zs each.1)

only_id : (y : Order) (ys : List Order) → Once id_of ys → IsIn y ys → Each (λ z. z.id ≡ y.id → z ≡ y) ys
only_id y [] once at = tt
only_id y (z ∷ zs) once (inl same) =
    (λ _. same, all_of (λ w. w.id ≢ z.id) (λ w. w.id ≡ y.id → w ≡ y) (λ w differ e. absurd (differ (e ∙ ap id_of (sym same)))) zs once.0)
only_id y (z ∷ zs) once (inr at) =
    (λ e. absurd (each_id (λ w. w.id ≢ z.id) y zs once.0 at (sym e)), only_id y zs once.1 at)

alike : (y z : Order) → (same_name y.rest z.rest ≡ true → z ≡ y) → (z.id ≡ y.id → z ≡ y) → (z.id == y.id) ≡ same_name y.rest z.rest
alike y z by_name by_id = elim (cases_Bool (z.id == y.id)) [
  | inl here ↦
      let same = by_id (eqb-true z.id y.id here) in
      here ∙ sym (ap (λ (w : Order). same_name y.rest w.rest) same ∙ same_name_refl y.rest)
  | inr there ↦ elim (cases_Bool (same_name y.rest z.rest)) [
    | inl tie ↦
        let same = by_name tie in
        absurd (cc (there, eq-eqb z.id y.id (ap id_of same)))
    | inr differ ↦ there ∙ sym differ
  ]
]

both : (P Q R : Order → Type 0) → ((z : Order) → P z → Q z → R z) → (ys : List Order) → Each P ys → Each Q ys → Each R ys
both P Q R f [] first second = tt
both P Q R f (z ∷ zs) first second = (f z first.0 second.0, both P Q R f zs first.1 second.1)

-- the id of an order of the list is its name
pub ids_alike : (y : Order) (ys : List Order) → Distinct ys → Once id_of ys → IsIn y ys → Each (λ z. (z.id == y.id) ≡ same_name y.rest z.rest) ys
ids_alike y ys distinct once at =
    both (λ z. same_name y.rest z.rest ≡ true → z ≡ y) (λ z. z.id ≡ y.id → z ≡ y) (λ z. (z.id == y.id) ≡ same_name y.rest z.rest) (λ z by_name by_id. alike y z by_name by_id) ys (only_named y ys distinct at) (only_id y ys once at)

pub in_list : (y : Order) (ys : List Order) → Stands ys y → IsIn y ys
in_list y ys here = found_in (λ z. same_name y.rest z.rest) y ys here

-- what is kept of a list by the id
pub kept_alike : (y : Order) (list : List Kept) → Distinct (orders_in list) → Once named list → IsIn y (orders_in list) → chain.Each (λ (k : Kept). is_named y.id k ≡ same_name y.rest k.order.rest) list
kept_alike y list distinct once at = go list (lifted (λ z. (z.id == y.id) ≡ same_name y.rest z.rest) list (ids_alike y (orders_in list) distinct (once_shown list once) at))
  where
    go : (ks : List Kept) → chain.Each (λ (k : Kept). (k.order.id == y.id) ≡ same_name y.rest k.order.rest) ks → chain.Each (λ (k : Kept). is_named y.id k ≡ same_name y.rest k.order.rest) ks
    go [] each = tt
    go (k ∷ ks) each = (named_is y.id k ∙ each.0, go ks each.1)

-- the other orders have other ids
pub others_differ : (y : Order) (ys : List Order) → Each (λ z. (z.id == y.id) ≡ same_name y.rest z.rest) ys → Each (λ z. z.id ≢ y.id) (without y.rest ys)
others_differ y [] each = tt
others_differ y (z ∷ zs) each = elim (cases_Bool (same_name y.rest z.rest)) [
  | inl named ↦ rw named (others_differ y zs each.1)
  | inr other ↦ rw other ((λ e. absurd (cc (each.0 ∙ other, eq-eqb z.id y.id e))), others_differ y zs each.1)
]

-- a new id
pub new_found : (id : ℕ) (list : List Kept) → Each (λ y. y.id ≢ id) (orders_in list) → find (is_named id) list ≡ None
new_found id [] new = refl
new_found id (k ∷ ks) new = ap (λ (b : Bool). cond b (Some k) (find (is_named id) ks)) (named_is id k ∙ ne_eqb k.order.id id new.0) ∙ new_found id ks new.1

-- the order of an id, and the order of an id and an owner
none_owned : (session id : ℕ) (ys : List Order) → chain.Each (λ (y : Order). y.id ≢ id) ys → order_of ys session id ≡ None
none_owned session id [] each = refl
none_owned session id (y ∷ ys) each =
    let other : is_order session id y ≡ false = ap (λ (b : Bool). b && (y.owner == session)) (ne_eqb y.id id each.0) in
    ap (λ (b : Bool). cond b (Some y) (order_of ys session id)) other ∙ none_owned session id ys each.1

pub owner_found : (session id : ℕ) (list : List Kept) → Once id_of (orders_in list) → owned session (find (is_named id) list) ≡ order_of (orders_in list) session id
owner_found session id [] once = refl
owner_found session id (k ∷ ks) once = elim (cases_Bool (k.order.id == id)) [
  | inl here ↦
      let same = eqb-true k.order.id id here in
      let none = none_owned session id (orders_in ks) (subst (λ (n : ℕ). chain.Each (λ (y : Order). y.id ≢ n) (orders_in ks)) same once.0) in
      ap (λ (b : Bool). owned session (cond b (Some k) (find (is_named id) ks))) (named_is id k ∙ here)
      ∙ ap (λ (o : Option Order). cond (k.order.owner == session) (Some k.order) o) (sym none)
      ∙ sym (ap (λ (b : Bool). cond (b && (k.order.owner == session)) (Some k.order) (order_of (orders_in ks) session id)) here)
  | inr there ↦
      ap (λ (b : Bool). owned session (cond b (Some k) (find (is_named id) ks))) (named_is id k ∙ there)
      ∙ owner_found session id ks once.1
      ∙ sym (ap (λ (b : Bool). cond (b && (k.order.owner == session)) (Some k.order) (order_of (orders_in ks) session id)) there)
]
