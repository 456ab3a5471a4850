-- Where a security stands in the product file.
use Rattle.std.proofs.Common.{◌≡◌, ℤ, ◌<◌, true, ◌||◌, Bool, List, [], ◌∷◌, length, sym, ap, ◌∙◌, inl, inr, arith}
use Rattle.std.specs.Ordering.{int_eq}
use Rattle.std.proofs.lemmas.Bool.{cases_Bool}
use Rattle.t7_book.specs.Orders.{rank_of}
use Rattle.t7_mbook.specs.Misfits.{is_listed}

-- a security that stands there stands within the list
pub rank_within : (xs : List ℤ) (s : ℤ) → is_listed xs s ≡ true → rank_of xs s < length xs
rank_within [] s listed = absurd (cc)
rank_within (u ∷ us) s listed = elim (cases_Bool (int_eq u s)) [
  | inl here ↦ rw here (omega arith)
  | inr there ↦
      let rest : is_listed us s ≡ true = sym (ap (λ (b : Bool). b || is_listed us s) there) ∙ listed in
      let less = rank_within us s rest in
      rw there (omega arith)
]
