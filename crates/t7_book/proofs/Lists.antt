-- Facts about each order of a list, orders whose stamps differ, and what stays in a list when it is edited.
use Rattle.std.proofs.Common.{◌≡◌, ◌≢◌, ◌⊎◌, ℕ, ◌+◌, Bool, true, false, cond, ◌&&◌, List, [], ◌∷◌, length, Some, None, refl, ap, sym, subst, ◌∙◌, inl, inr, arith}
use Rattle.std.specs.Prelude.{◌==◌}
use Rattle.std.specs.List.{filter, find}
use Rattle.std.specs.Ordering.{int_eq}
use Rattle.std.proofs.lemmas.Bool.{and_parts, and_right, cases_Bool, ne_eqb, eqb-true}
use Rattle.t7_base.specs.declared.public.Resting.{Resting}
use Rattle.t7_book.specs.declared.order.Order.{Order}
use Rattle.t7_book.specs.Orders.{placed, same_name, is_side, renewed, renewed_order}
use Rattle.t7_book.specs.Laws.{Each, Distinct}
use Rattle.t7_book.proofs.TradeLemmas.{same_name_refl}

-- y is one of the orders
abbrev pub IsIn : Order → List Order → Type 0
IsIn y [] = ⊥
IsIn y (z ∷ zs) = (z ≡ y) ⊎ IsIn y zs

pub each_weaker : (P Q : Order → Type 0) → ((y : Order) → P y → Q y) → (ys : List Order) → Each P ys → Each Q ys
each_weaker P Q f [] h = tt
each_weaker P Q f (y ∷ ys) h = (f y h.0, each_weaker P Q f ys h.1)

pub each_at : (P : Order → Type 0) (y : Order) (ys : List Order) → Each P ys → IsIn y ys → P y
each_at P y [] h at = absurd at
each_at P y (z ∷ zs) h (inl same) = subst P same h.0
each_at P y (z ∷ zs) h (inr later) = each_at P y zs h.1 later

-- what a filter keeps
module _ (p : Order → Bool) where
  pub each_filter : (P : Order → Type 0) (ys : List Order) → Each P ys → Each P (filter p ys)
  each_filter P [] h = tt
  each_filter P (y ∷ ys) h = elim (p y) as (λ b. Each P (cond b (y ∷ filter p ys) (filter p ys))) [ true ↦ (h.0, each_filter P ys h.1) | false ↦ each_filter P ys h.1 ]

  pub distinct_filter : (ys : List Order) → Distinct ys → Distinct (filter p ys)
  distinct_filter [] d = tt
  distinct_filter (y ∷ ys) d = elim (p y) as (λ b. Distinct (cond b (y ∷ filter p ys) (filter p ys))) [
    | true ↦ (each_filter (λ z. z.rest.stamp ≢ y.rest.stamp) ys d.0, distinct_filter ys d.1)
    | false ↦ distinct_filter ys d.1
  ]

  pub in_filter : (y : Order) (ys : List Order) → p y ≡ true → IsIn y ys → IsIn y (filter p ys)
  in_filter y [] passes at = absurd at
  in_filter y (z ∷ zs) passes (inl same) =
      let e : p z ≡ true = ap p same ∙ passes in
      rw e (inl same)
  in_filter y (z ∷ zs) passes (inr later) = elim (p z) as (λ b. IsIn y (cond b (z ∷ filter p zs) (filter p zs))) [ true ↦ inr (in_filter y zs passes later) | false ↦ in_filter y zs passes later ]

  pub found_in : (y : Order) (ys : List Order) → find p ys ≡ Some y → IsIn y ys
  found_in y [] found = cc
  found_in y (z ∷ zs) found = elim (cases_Bool (p z)) [
    | inl passes ↦ inl (let e : Some z ≡ Some y = rw passes at found in cc)
    | inr fails ↦ inr (found_in y zs (rw fails at found))
  ]

-- what is placed
module _ (before : Order → Order → Bool) (x : Order) where
  pub each_placed : (P : Order → Type 0) (ys : List Order) → P x → Each P ys → Each P (placed before x ys)
  each_placed P [] px h = (px, tt)
  each_placed P (y ∷ ys) px h = elim (before y x) as (λ b. Each P (cond b (y ∷ placed before x ys) (x ∷ y ∷ ys))) [ true ↦ (h.0, each_placed P ys px h.1) | false ↦ (px, h) ]

  pub distinct_placed : (ys : List Order) → Each (λ y. y.rest.stamp ≢ x.rest.stamp) ys → Distinct ys → Distinct (placed before x ys)
  distinct_placed [] new d = (tt, tt)
  distinct_placed (y ∷ ys) new d = elim (before y x) as (λ b. Distinct (cond b (y ∷ placed before x ys) (x ∷ y ∷ ys))) [
    | true ↦ (each_placed (λ z. z.rest.stamp ≢ y.rest.stamp) ys (λ e. new.0 (sym e)) d.0, distinct_placed ys new.1 d.1)
    | false ↦ (new, d)
  ]

  pub length_placed : (ys : List Order) → length (placed before x ys) ≡ length ys + 1
  length_placed [] = refl
  length_placed (y ∷ ys) =
      let rest = length_placed ys in
      elim (before y x) as (λ b. length (cond b (y ∷ placed before x ys) (x ∷ y ∷ ys)) ≡ length (y ∷ ys) + 1) [ true ↦ omega arith | false ↦ omega arith ]

-- orders of other stamps have other names
pub other_name : (x y : Resting) → y.stamp ≢ x.stamp → same_name x y ≡ false
other_name x y differ = and_right (int_eq y.security x.security) _ (and_right (is_side y.side x.side) _ (ne_eqb y.stamp x.stamp differ))

pub name_stamp : (x y : Resting) → same_name x y ≡ true → y.stamp ≡ x.stamp
name_stamp x y same =
    let parts = and_parts (int_eq y.security x.security) (is_side y.side x.side && (y.stamp == x.stamp)) same in
    eqb-true y.stamp x.stamp (and_parts (is_side y.side x.side) (y.stamp == x.stamp) parts.1).1

-- an order of the list is found by its name
pub stands : (y : Order) (ys : List Order) → Distinct ys → IsIn y ys → find (λ z. same_name y.rest z.rest) ys ≡ Some y
stands y [] d at = absurd at
stands y (z ∷ zs) d (inl same) =
    let named : same_name y.rest z.rest ≡ true = rw same (same_name_refl y.rest) in
    rw named (ap (λ (w : Order). Some w) same)
stands y (z ∷ zs) d (inr later) =
    let other : same_name y.rest z.rest ≡ false = other_name y.rest z.rest (λ e. each_at (λ w. w.rest.stamp ≢ z.rest.stamp) y zs d.0 later (sym e)) in
    rw other (stands y zs d.1 later)

-- no other order of the list has its name
pub only_named : (y : Order) (ys : List Order) → Distinct ys → IsIn y ys → Each (λ z. same_name y.rest z.rest ≡ true → z ≡ y) ys
only_named y [] d at = tt
only_named y (z ∷ zs) d (inl same) =
    (λ _. same, each_weaker (λ w. w.rest.stamp ≢ z.rest.stamp) (λ w. same_name y.rest w.rest ≡ true → w ≡ y) (λ w differ named. absurd (differ (name_stamp y.rest w.rest named ∙ ap (λ (v : Order). v.rest.stamp) (sym same)))) zs d.0)
only_named y (z ∷ zs) d (inr later) =
    (λ named. absurd (each_at (λ w. w.rest.stamp ≢ z.rest.stamp) y zs d.0 later (sym (name_stamp y.rest z.rest named))), only_named y zs d.1 later)

-- a name that no order of the list has
pub none_named : (x : Resting) (ys : List Order) → Each (λ y. y.rest.stamp ≢ x.stamp) ys → find (λ z. same_name x z.rest) ys ≡ None
none_named x [] new = refl
none_named x (y ∷ ys) new = rw (other_name x y.rest new.0) (none_named x ys new.1)

-- an order that is renewed keeps its name, so the stamps stay
renewed_stamp : (x y : Order) → (renewed_order x y).rest.stamp ≡ y.rest.stamp
renewed_stamp x y = elim (cases_Bool (same_name x.rest y.rest)) [
  | inl named ↦ rw named (sym (name_stamp x.rest y.rest named))
  | inr other ↦ rw other refl
]

pub each_renewed : (P : Order → Type 0) (x : Order) → ((y : Order) → P y → P (renewed_order x y)) → (ys : List Order) → Each P ys → Each P (renewed x ys)
each_renewed P x keeps [] h = tt
each_renewed P x keeps (y ∷ ys) h = (keeps y h.0, each_renewed P x keeps ys h.1)

each_renewed_stamp : (x : Order) (s : ℕ) (ys : List Order) → Each (λ z. z.rest.stamp ≢ s) ys → Each (λ z. z.rest.stamp ≢ s) (renewed x ys)
each_renewed_stamp x s ys h = each_renewed (λ z. z.rest.stamp ≢ s) x (λ y differ e. differ (sym (renewed_stamp x y) ∙ e)) ys h

pub distinct_renewed : (x : Order) (ys : List Order) → Distinct ys → Distinct (renewed x ys)
distinct_renewed x [] d = tt
distinct_renewed x (y ∷ ys) d =
    (subst (λ (s : ℕ). Each (λ z. z.rest.stamp ≢ s) (renewed x ys)) (sym (renewed_stamp x y)) (each_renewed_stamp x y.rest.stamp ys d.0), distinct_renewed x ys d.1)

pub in_renewed : (x y : Order) (ys : List Order) → same_name x.rest y.rest ≡ false → IsIn y ys → IsIn y (renewed x ys)
in_renewed x y [] other at = absurd at
in_renewed x y (z ∷ zs) other (inl same) =
    let e : same_name x.rest z.rest ≡ false = rw same other in
    inl (rw e same)
in_renewed x y (z ∷ zs) other (inr later) = inr (in_renewed x y zs other later)

pub length_renewed : (x : Order) (ys : List Order) → length (renewed x ys) ≡ length ys
length_renewed x [] = refl
length_renewed x (y ∷ ys) = omega (arith, length_renewed x ys)
