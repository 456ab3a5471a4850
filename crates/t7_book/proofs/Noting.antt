-- Where a security stands, as a map notes it.
use Rattle.std.proofs.Common.{◌≡◌, ℕ, ℤ, ◌+◌, Bool, true, false, cond, ◌||◌, List, [], ◌∷◌, ◌++◌, length, Some, None, Option, refl, sym, ap, subst, ◌∙◌, inl, inr, arith}
use Rattle.std.specs.Prelude.{is_some}
use Rattle.std.specs.Ordering.{int_eq}
use Rattle.std.proofs.lemmas.Bool.{cases_Bool}
use Rattle.std.proofs.lemmas.Bool.Decides.{Decides-int_eq}
use Rattle.t7_book.specs.Orders.{rank_of}
use Rattle.t7_book.specs.Numbers.{is_listed, rank_in, noted}

-- one place further
abbrev up : Option ℕ → Option ℕ
up None = None
up (Some rank) = Some (1 + rank)

further : (b : Bool) (rank : ℕ) → cond b (Some (1 + rank)) None ≡ up (cond b (Some rank) None)
further true rank = refl
further false rank = refl

noted_further : (o : Option ℕ) (same : Bool) (place : ℕ) → noted (up o) same (1 + place) ≡ up (noted o same place)
noted_further None true place = refl
noted_further None false place = refl
noted_further (Some rank) same place = refl

behind_another : (u : ℤ) (us : List ℤ) (s : ℤ) → int_eq u s ≡ false → rank_in (u ∷ us) s ≡ up (rank_in us s)
behind_another u us s other =
    ap (λ (b : Bool). cond (b || is_listed us s) (Some (cond b 0 (1 + rank_of us s))) None) other ∙ further (is_listed us s) (rank_of us s)

at_the_first : (u : ℤ) (us : List ℤ) (s : ℤ) → int_eq u s ≡ true → rank_in (u ∷ us) s ≡ Some 0
at_the_first u us s here = ap (λ (b : Bool). cond (b || is_listed us s) (Some (cond b 0 (1 + rank_of us s))) None) here

only_one : (b : Bool) → noted None b 0 ≡ cond (b || false) (Some (cond b 0 (1 + 0))) None
only_one true = refl
only_one false = refl

-- a further security is noted behind the others
pub noted_last : (xs : List ℤ) (x s : ℤ) → noted (rank_in xs s) (int_eq x s) (length xs) ≡ rank_in (xs ++ x ∷ []) s
noted_last [] x s = only_one (int_eq x s)
noted_last (u ∷ us) x s = elim (cases_Bool (int_eq u s)) [
  | inl here ↦
      ap (λ (o : Option ℕ). noted o (int_eq x s) (length (u ∷ us))) (at_the_first u us s here) ∙ sym (at_the_first u (us ++ x ∷ []) s here)
  | inr other ↦
      let size : length (u ∷ us) ≡ 1 + length us = omega arith in
      ap (λ (o : Option ℕ). noted o (int_eq x s) (length (u ∷ us))) (behind_another u us s other)
      ∙ ap (λ (n : ℕ). noted (up (rank_in us s)) (int_eq x s) n) size
      ∙ noted_further (rank_in us s) (int_eq x s) (length us)
      ∙ ap up (noted_last us x s)
      ∙ sym (behind_another u (us ++ x ∷ []) s other)
]

some_stays : (o : Option ℕ) (same : Bool) (place : ℕ) → is_some o ≡ true → o ≡ noted o same place
some_stays None same place there = absurd (cc)
some_stays (Some rank) same place there = refl

other_stays : (o : Option ℕ) (place : ℕ) → o ≡ noted o false place
other_stays None place = refl
other_stays (Some rank) place = refl

none_noted : (o : Option ℕ) (place : ℕ) → is_some o ≡ false → Some place ≡ noted o true place
none_noted None place none = refl
none_noted (Some rank) place none = absurd (cc)

-- what is noted already stays
pub noted_already : (ranks : ℤ → Option ℕ) (x s : ℤ) (place : ℕ) → is_some (ranks x) ≡ true → ranks s ≡ noted (ranks s) (int_eq x s) place
noted_already ranks x s place there = elim (cases_Bool (int_eq x s)) [
  | inl same ↦
      let e : x ≡ s = (Decides-int_eq x s).0 same in
      some_stays (ranks s) (int_eq x s) place (subst (λ (t : ℤ). is_some (ranks t) ≡ true) e there)
  | inr other ↦ other_stays (ranks s) place ∙ ap (λ (b : Bool). noted (ranks s) b place) (sym other)
]

-- what wasn't noted is
pub noted_anew : (ranks : ℤ → Option ℕ) (x s : ℤ) (place : ℕ) → is_some (ranks x) ≡ false → cond (int_eq x s) (Some place) (ranks s) ≡ noted (ranks s) (int_eq x s) place
noted_anew ranks x s place none = elim (cases_Bool (int_eq x s)) [
  | inl same ↦
      let e : x ≡ s = (Decides-int_eq x s).0 same in
      ap (λ (b : Bool). cond b (Some place) (ranks s)) same
      ∙ none_noted (ranks s) place (subst (λ (t : ℤ). is_some (ranks t) ≡ false) e none)
      ∙ ap (λ (b : Bool). noted (ranks s) b place) (sym same)
  | inr other ↦
      ap (λ (b : Bool). cond b (Some place) (ranks s)) other ∙ other_stays (ranks s) place ∙ ap (λ (b : Bool). noted (ranks s) b place) (sym other)
]

-- the place that is noted of a security is where it stands
pub noted_place : (b : Bool) (n m : ℕ) → cond b (Some n) None ≡ Some m → (b ≡ true) × (m ≡ n)
noted_place true n m is = (refl, cc)
noted_place false n m is = absurd (cc)
