-- Orders go until none of a side is left.
use Rattle.std.proofs.Common.{◌≡◌, ℕ, ℤ, ◌<◌, Bool, true, false, not, cond, ◌&&◌, List, [], ◌∷◌, length, Some, None, Option, refl, sym, ap, ◌∙◌, inl, inr, arith}
use Rattle.std.specs.Prelude.{◌==◌}
use Rattle.std.specs.List.{filter, find}
use Rattle.std.specs.Ordering.{int_eq}
use Rattle.std.proofs.lemmas.Bool.{cases_Bool, and_parts, eq-eqb}
use Rattle.t7_base.specs.declared.ids.Side.{Side}
use Rattle.t7_base.specs.declared.ids.Side.TheVariants.{Buy, Sell}
use Rattle.t7_base.specs.declared.public.Resting.{Resting}
use Rattle.t7_book.specs.Orders.{has_name, is_side}
use Rattle.t7_mbook.specs.Changes.{without_name}
use Rattle.t7_mbook.proofs.Room.{length_dropped}
use Rattle.t7_mbook.proofs.FitLemmas.{found_passes}

-- what passes one test is found by any that it passes
found_too : (p q : Resting → Bool) (list : List Resting) (y : Resting) → find p list ≡ Some y → q y ≡ true → (kept : Resting) × (find q list ≡ Some kept)
found_too p q [] y found passes = absurd (cc)
found_too p q (z ∷ zs) y found passes = elim (cases_Bool (q z)) [
  | inl here ↦ (z, ap (λ (b : Bool). cond b (Some z) (find q zs)) here)
  | inr there ↦ elim (cases_Bool (p z)) [
    | inl first ↦
        let e : Some z ≡ Some y = sym (ap (λ (b : Bool). cond b (Some z) (find p zs)) first) ∙ found in
        let same : z ≡ y = cc (e) in
        let no : q y ≡ false = ap q (sym same) ∙ there in
        absurd (cc (no, passes))
    | inr other ↦
        let later = found_too p q zs y (sym (ap (λ (b : Bool). cond b (Some z) (find p zs)) other) ∙ found) passes in
        (later.0, ap (λ (b : Bool). cond b (Some z) (find q zs)) there ∙ later.1)
  ]
]

true_all : (a b c : Bool) → a ≡ true → b ≡ true → c ≡ true → (a && (b && c)) ≡ true
true_all a b c first second third = ap (λ (x : Bool). x && (b && c)) first ∙ ap (λ (x : Bool). x && c) second ∙ third

side_name : (security : ℤ) (side : Side) (y : Resting) → (int_eq y.security security && is_side y.side side) ≡ true → has_name security side y.stamp y ≡ true
side_name security side y passes =
    let parts = and_parts (int_eq y.security security) (is_side y.side side) passes in
    true_all (int_eq y.security security) (is_side y.side side) (y.stamp == y.stamp) parts.0 parts.1 (eq-eqb y.stamp y.stamp refl)

-- an order of a side goes
pub one_fewer : (security : ℤ) (side : Side) (list : List Resting) (y : Resting) → find (λ z. int_eq z.security security && is_side z.side side) list ≡ Some y → length (without_name security side y.stamp list) < length list
one_fewer security side list y found =
    let passes = found_passes (λ z. int_eq z.security security && is_side z.side side) list y found in
    let kept = found_too (λ z. int_eq z.security security && is_side z.side side) (has_name security side y.stamp) list y found (side_name security side y passes) in
    let shorter = length_dropped (has_name security side y.stamp) kept.0 list kept.1 in
    omega (arith, shorter)

dropped : (p q : Resting → Bool) → ((y : Resting) → p y ≡ true → q y ≡ false) → (list : List Resting) → filter q (filter (λ y. not (p y)) list) ≡ filter q list
dropped p q apart [] = refl
dropped p q apart (y ∷ ys) =
    let rest = dropped p q apart ys in
    elim (cases_Bool (p y)) [
      | inl goes ↦
          ap (λ (b : Bool). filter q (cond (not b) (y ∷ filter (λ y. not (p y)) ys) (filter (λ y. not (p y)) ys))) goes
          ∙ rest
          ∙ sym (ap (λ (b : Bool). cond b (y ∷ filter q ys) (filter q ys)) (apart y goes))
      | inr stays ↦
          ap (λ (b : Bool). filter q (cond (not b) (y ∷ filter (λ y. not (p y)) ys) (filter (λ y. not (p y)) ys))) stays
          ∙ ap (λ (us : List Resting). cond (q y) (y ∷ us) us) rest
    ]

-- the orders of other sides stay as they are
pub others_stay : (security : ℤ) (side : Side) (stamp : ℕ) (list : List Resting) → filter (λ y. not (int_eq y.security security && is_side y.side side)) (without_name security side stamp list) ≡ filter (λ y. not (int_eq y.security security && is_side y.side side)) list
others_stay security side stamp list =
    dropped (has_name security side stamp) (λ y. not (int_eq y.security security && is_side y.side side)) (λ y named.
    let parts = and_parts (int_eq y.security security) (is_side y.side side && (y.stamp == stamp)) named in
    let rest = and_parts (is_side y.side side) (y.stamp == stamp) parts.1 in
    ap (λ (b : Bool). not (b && is_side y.side side)) parts.0 ∙ ap not rest.0) list

-- where none is found, all stay
pub none_goes : (p : Resting → Bool) (list : List Resting) → find p list ≡ None → filter (λ y. not (p y)) list ≡ list
none_goes p [] none = refl
none_goes p (y ∷ ys) none = elim (cases_Bool (p y)) [
  | inl passes ↦ absurd (let e : Some y ≡ None = sym (ap (λ (b : Bool). cond b (Some y) (find p ys)) passes) ∙ none in cc)
  | inr fails ↦
      ap (λ (b : Bool). cond (not b) (y ∷ filter (λ y. not (p y)) ys) (filter (λ y. not (p y)) ys)) fails
      ∙ ap (λ (us : List Resting). y ∷ us) (none_goes p ys (sym (ap (λ (b : Bool). cond b (Some y) (find p ys)) fails) ∙ none))
]

side_case : (s : Side) (P : Type 0) → (s ≡ Buy → P) → (s ≡ Sell → P) → P
side_case Buy P buy sell = buy refl
side_case Sell P buy sell = sell refl

-- both sides of a security are the security
pub both_sides : (security : ℤ) (list : List Resting) → filter (λ y. not (int_eq y.security security && is_side y.side Sell)) (filter (λ y. not (int_eq y.security security && is_side y.side Buy)) list) ≡ filter (λ y. not (int_eq y.security security)) list
both_sides security [] = refl
both_sides security (y ∷ ys) =
    let rest = both_sides security ys in
    let B : List Resting = filter (λ y. not (int_eq y.security security && is_side y.side Buy)) ys in
    let A : List Resting = filter (λ y. not (int_eq y.security security)) ys in
    elim (cases_Bool (int_eq y.security security)) [
      | inl here ↦
          side_case y.side
          (filter (λ y. not (int_eq y.security security && is_side y.side Sell)) (filter (λ y. not (int_eq y.security security && is_side y.side Buy)) (y ∷ ys)) ≡ filter (λ y. not (int_eq y.security security)) (y ∷ ys))
          (λ buy.
          ap (λ (b : Bool). filter (λ y. not (int_eq y.security security && is_side y.side Sell)) (cond (not b) (y ∷ B) B)) (ap (λ (b : Bool). b && is_side y.side Buy) here ∙ ap (λ (s : Side). is_side s Buy) buy)
          ∙ rest ∙ sym (ap (λ (b : Bool). cond (not b) (y ∷ A) A) here))
          (λ sell.
          ap (λ (b : Bool). filter (λ y. not (int_eq y.security security && is_side y.side Sell)) (cond (not b) (y ∷ B) B)) (ap (λ (b : Bool). b && is_side y.side Buy) here ∙ ap (λ (s : Side). is_side s Buy) sell)
          ∙ ap (λ (b : Bool). cond (not b) (y ∷ filter (λ y. not (int_eq y.security security && is_side y.side Sell)) B) (filter (λ y. not (int_eq y.security security && is_side y.side Sell)) B)) (ap (λ (b : Bool). b && is_side y.side Sell) here ∙ ap (λ (s : Side). is_side s Sell) sell)
          ∙ rest ∙ sym (ap (λ (b : Bool). cond (not b) (y ∷ A) A) here))
      | inr there ↦
          ap (λ (b : Bool). filter (λ y. not (int_eq y.security security && is_side y.side Sell)) (cond (not (b && is_side y.side Buy)) (y ∷ B) B)) there
          ∙ ap (λ (b : Bool). cond (not (b && is_side y.side Sell)) (y ∷ filter (λ y. not (int_eq y.security security && is_side y.side Sell)) B) (filter (λ y. not (int_eq y.security security && is_side y.side Sell)) B)) there
          ∙ ap (λ (us : List Resting). y ∷ us) rest
          ∙ sym (ap (λ (b : Bool). cond (not b) (y ∷ A) A) there)
    ]

pub none_of : (o : Option Resting) → ((y : Resting) → o ≡ Some y → ⊥) → o ≡ None
none_of None empty = refl
none_of (Some y) empty = absurd (empty y refl)
