-- Orders go until none of a side is left.
use Rattle.std.proofs.Common.{◌≡◌, ℤ, Bool, true, false, not, cond, ◌&&◌, List, [], ◌∷◌, Some, None, Option, refl, sym, ap, ◌∙◌, inl, inr}
use Rattle.std.specs.Prelude.{◌==◌}
use Rattle.std.specs.List.{filter, find}
use Rattle.std.specs.Ordering.{int_eq}
use Rattle.std.proofs.lemmas.Bool.{cases_Bool, and_parts, and_from}
use Rattle.std.proofs.lemmas.Bool.Decides.{Decides-int_eq}
use Rattle.t7_base.specs.declared.ids.Side.{Side}
use Rattle.t7_base.specs.declared.ids.Side.TheVariants.{Buy, Sell}
use Rattle.t7_book.specs.declared.order.Order.{Order}
use Rattle.t7_book.specs.Orders.{is_in, is_side, same_name, without}
use Rattle.t7_book.specs.Kept.{is_on}
use Rattle.t7_book.proofs.Numbered.{Decides-side}

pub found_passes : (p : Order → Bool) (list : List Order) (y : Order) → find p list ≡ Some y → p y ≡ true
found_passes p [] y found = absurd (cc)
found_passes p (z ∷ zs) y found = elim (cases_Bool (p z)) [
  | inl passes ↦
      let e : Some z ≡ Some y = rw passes at found in
      let same : z ≡ y = cc (e) in
      ap p (sym same) ∙ passes
  | inr fails ↦ found_passes p zs y (rw fails at found)
]

dropped : (p q : Order → Bool) → ((y : Order) → p y ≡ true → q y ≡ false) → (list : List Order) → filter q (filter (λ y. not (p y)) list) ≡ filter q list
dropped p q apart [] = refl
dropped p q apart (y ∷ ys) =
    let rest = dropped p q apart ys in
    elim (cases_Bool (p y)) [
      | inl goes ↦ rw (goes, apart y goes) rest
      | inr stays ↦ rw stays (ap (λ (us : List Order). cond (q y) (y ∷ us) us) rest)
    ]

on_too : (security : ℤ) (side : Side) (y z : Order) → is_on security side y ≡ true → same_name y.rest z.rest ≡ true → not (is_on security side z) ≡ false
on_too security side y z on named =
    let parts = and_parts (int_eq y.rest.security security) (is_side y.rest.side side) on in
    let names = and_parts (int_eq z.rest.security y.rest.security) (is_side z.rest.side y.rest.side && (z.rest.stamp == y.rest.stamp)) named in
    let sides = and_parts (is_side z.rest.side y.rest.side) (z.rest.stamp == y.rest.stamp) names.1 in
    let at : z.rest.security ≡ security = (Decides-int_eq z.rest.security y.rest.security).0 names.0 ∙ (Decides-int_eq y.rest.security security).0 parts.0 in
    let same : z.rest.side ≡ side = (Decides-side z.rest.side y.rest.side).0 sides.0 ∙ (Decides-side y.rest.side side).0 parts.1 in
    ap not (and_from (int_eq z.rest.security security) (is_side z.rest.side side) ((Decides-int_eq z.rest.security security).1 at) ((Decides-side z.rest.side side).1 same))

-- where an order of a side goes, the orders of other sides stay as they are
pub others_stay : (security : ℤ) (side : Side) (y : Order) (list : List Order) → is_on security side y ≡ true → filter (λ z. not (is_on security side z)) (without y.rest list) ≡ filter (λ z. not (is_on security side z)) list
others_stay security side y list on =
    dropped (λ z. same_name y.rest z.rest) (λ z. not (is_on security side z)) (λ z named. on_too security side y z on named) list

-- where none is found, all stay
pub none_goes : (p : Order → Bool) (list : List Order) → find p list ≡ None → filter (λ y. not (p y)) list ≡ list
none_goes p [] none = refl
none_goes p (y ∷ ys) none = elim (cases_Bool (p y)) [
  | inl passes ↦ absurd (let e : Some y ≡ None = rw passes at none in cc)
  | inr fails ↦ rw fails (ap (λ (us : List Order). y ∷ us) (none_goes p ys (rw fails at none)))
]

side_case : (s : Side) (P : Type 0) → (s ≡ Buy → P) → (s ≡ Sell → P) → P
side_case Buy P buy sell = buy refl
side_case Sell P buy sell = sell refl

-- both sides of a security are the security
pub both_sides : (security : ℤ) (list : List Order) → filter (λ y. not (is_on security Sell y)) (filter (λ y. not (is_on security Buy y)) list) ≡ filter (λ y. not (is_in security y)) list
both_sides security [] = refl
both_sides security (y ∷ ys) =
    let rest = both_sides security ys in
    elim (cases_Bool (int_eq y.rest.security security)) [
      | inl here ↦
          side_case y.rest.side
          (filter (λ y. not (is_on security Sell y)) (filter (λ y. not (is_on security Buy y)) (y ∷ ys)) ≡ filter (λ y. not (is_in security y)) (y ∷ ys))
          (λ buy. rw (here, buy) rest)
          (λ sell. rw (here, sell, here) rest)
      | inr there ↦ rw (there, there) (ap (λ (us : List Order). y ∷ us) rest)
    ]

pub none_of : {X : Type 0} (o : Option X) → ((y : X) → o ≡ Some y → ⊥) → o ≡ None
none_of None empty = refl
none_of (Some y) empty = absurd (empty y refl)
