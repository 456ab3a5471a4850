-- The value of digits never falls.
use Rattle.std.proofs.Common.{◌≡◌, ◌<◌, ◌≤◌, ◌+◌, ◌*◌, ◌-◌, ◌&&◌, ℕ, suc, List, [], ◌∷◌, Bool, true, false, refl, arith, length, drop, get_or, drop-cons, nat_le}
use Rattle.std.proofs.lemmas.Bool.Decides.{nat_tests}
use Rattle.t7_records.specs.Numbers.{is_decimal, is_decimal_to, value_from, value_of}

pub value_rises : (n : ℕ) (ds : List ℕ) → n ≤ value_from n ds
value_rises n [] = omega arith
value_rises n (d ∷ ds) = omega (arith, value_rises (10 * n + (d - 48)) ds)

over : (most n : ℕ) (b : Bool) → most < n → (b && nat_le n most) ≡ false
over most n true h = grind (arith, nat_tests)
over most n false h = refl

-- where the digits so far spell more than the limit, all of them do
pub too_big : (most n i : ℕ) (cell : List ℕ) → i < length cell → value_from n (drop i cell) ≡ value_of cell
    → most < 10 * n + (get_or cell i 0 - 48) → is_decimal_to most cell ≡ false
unfolding is_decimal_to
too_big most n i cell inside so_far h =
    let whole : value_from (10 * n + (get_or cell i 0 - 48)) (drop (suc i) cell) ≡ value_of cell = rw (drop-cons cell i 0) at so_far in
    over most (value_of cell) (is_decimal cell) (omega (arith, whole, value_rises (10 * n + (get_or cell i 0 - 48)) (drop (suc i) cell)))
