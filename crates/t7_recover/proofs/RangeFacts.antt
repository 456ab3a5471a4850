-- Slices of a list, by the places of what they have.
use Rattle.std.proofs.Common.{◌≡◌, ℕ, zero, suc, ◌+◌, ◌-◌, ◌<◌, min, List, [], ◌∷◌, length, take, drop, refl, ap, sym, ◌∙◌, arith, suc-add, zero-add}
use Rattle.std.specs.Prelude.{slice_get}
use Rattle.std.proofs.lemmas.List.{length-drop, length-take}
use Rattle.t7_recover.specs.Ranges.{RangesAreSlices, range_of}

get-take : {X : Type 0} (xs : List X) (n k : ℕ) → k < n → slice_get (take n xs) k ≡ slice_get xs k
get-take [] zero k lt = absurd (omega arith)
get-take [] (suc n) k lt = refl
get-take (x ∷ xs) zero k lt = absurd (omega arith)
get-take (x ∷ xs) (suc n) zero lt = refl
get-take (x ∷ xs) (suc n) (suc k) lt = get-take xs n k (omega arith)

get-drop : {X : Type 0} (xs : List X) (n k : ℕ) → slice_get (drop n xs) k ≡ slice_get xs (n + k)
get-drop xs zero k = ap (slice_get xs) (sym (zero-add k))
get-drop [] (suc n) k = refl
get-drop (x ∷ xs) (suc n) k = get-drop xs n k ∙ ap (slice_get (x ∷ xs)) (sym (suc-add n k))

pub ranges_are_slices : RangesAreSlices
ranges_are_slices list after upto =
    let n = min upto (after + 500) - after in
    let long : length (range_of list after upto) ≡ min n (length list - after) = length-take n (drop after list) ∙ ap (min n) (length-drop after list) in
    record {
      count = omega (arith, long);
      each = λ k lt. get-take (drop after list) n k (omega (arith, long, lt)) ∙ get-drop list after k;
    }
