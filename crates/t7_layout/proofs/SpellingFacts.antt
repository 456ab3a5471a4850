-- Two plain decimals of one number are the same digits.
use Rattle.std.proofs.Common.{◌≡◌, ◌<◌, ◌≤◌, ◌≢◌, ◌+◌, ◌-◌, ◌*◌, ◌^◌, ◌∙◌, ℕ, suc, List, [], ◌∷◌, Bool, true, false, not, length, refl, ap, sym, arith, mul_assoc, mul_comm, nat_lt, nat_le, nat_eq, ◌&&◌, ◌||◌, ◌==◌}
use Rattle.std.specs.Prelude.{slice_index}
use Rattle.std.specs.List.{list_all}
use Rattle.std.specs.Char.{is_ascii_digit}
use Rattle.std.proofs.Math.Nat.{mul-le-mul_right, pow-le-pow_right, pow-succ'}
use Rattle.std.proofs.lemmas.Bool.Decides.{nat_tests}
use Rattle.t7_records.specs.Numbers.{is_decimal, is_decimal_to, number_to, value_from, value_of}

and_true : (a b : Bool) → (a && b) ≡ true → (a ≡ true) × (b ≡ true)
and_true true b h = (refl, h)
and_true false b h = cc h

not_true : (a : Bool) → not a ≡ true → a ≡ false
not_true true h = cc h
not_true false h = refl

pub digit_low : (d : ℕ) → is_ascii_digit d ≡ true → 48 ≤ d
digit_low d h = let low : nat_le 48 d ≡ true = (and_true _ _ h).0 in grind (arith, nat_tests)

pub digit_high : (d : ℕ) → is_ascii_digit d ≡ true → d ≤ 57
digit_high d h = let high : nat_le d 57 ≡ true = (and_true _ _ h).1 in grind (arith, nat_tests)

-- a power more
ten_more : (n k : ℕ) → n * 10 ^ suc k ≡ 10 * n * 10 ^ k
ten_more n k = rw (pow-succ' 10 k) (sym (mul_assoc n 10 (10 ^ k)) ∙ ap (λ (m : ℕ). m * 10 ^ k) (mul_comm n 10))

-- the number that digits behind n spell is below that of n + 1 with zeros, and at least that of n with zeros
below_next : (n : ℕ) (ds : List ℕ) → list_all is_ascii_digit ds ≡ true → value_from n ds < (n + 1) * 10 ^ length ds
below_next n [] h = omega arith
below_next n (d ∷ ds) h =
    let both = and_true _ _ h in
    let more = below_next (10 * n + (d - 48)) ds both.1 in
    let high = digit_high d both.0 in
    let wide : (10 * n + (d - 48) + 1) * 10 ^ length ds ≤ 10 * (n + 1) * 10 ^ length ds = mul-le-mul_right (10 ^ length ds) (omega arith) in
    rw (ten_more (n + 1) (length ds)) (omega (arith, more, wide))

at_least : (n : ℕ) (ds : List ℕ) → n * 10 ^ length ds ≤ value_from n ds
at_least n [] = omega arith
at_least n (d ∷ ds) =
    let more = at_least (10 * n + (d - 48)) ds in
    let wide : 10 * n * 10 ^ length ds ≤ (10 * n + (d - 48)) * 10 ^ length ds = mul-le-mul_right (10 ^ length ds) (omega arith) in
    rw (ten_more n (length ds)) (omega (arith, more, wide))

-- as many digits of one number are the same
same_long : (n m : ℕ) (xs ys : List ℕ) → list_all is_ascii_digit xs ≡ true → list_all is_ascii_digit ys ≡ true → length xs ≡ length ys → value_from n xs ≡ value_from m ys
    → (n ≡ m) × (xs ≡ ys)
same_long n m [] [] h k l e = (e, refl)
same_long n m [] (y ∷ ys) h k l e = absurd (omega arith)
same_long n m (x ∷ xs) [] h k l e = absurd (omega arith)
same_long n m (x ∷ xs) (y ∷ ys) h k l e =
    let a = and_true _ _ h in
    let b = and_true _ _ k in
    let more = same_long (10 * n + (x - 48)) (10 * m + (y - 48)) xs ys a.1 b.1 (omega arith) e in
    let xl = digit_low x a.0 in
    let xh = digit_high x a.0 in
    let yl = digit_low y b.0 in
    let yh = digit_high y b.0 in
    let first : n ≡ m = omega (arith, more.0, xl, xh, yl, yh) in
    let digit : x ≡ y = omega (arith, more.0, xl, xh, yl, yh) in
    (first, ap (λ (d : ℕ). d ∷ xs) digit ∙ ap (λ (ds : List ℕ). y ∷ ds) more.1)

-- a number of more digits, the first of which is not 0, is greater
longer : (xs ys : List ℕ) → list_all is_ascii_digit xs ≡ true → list_all is_ascii_digit ys ≡ true → nat_eq (slice_index ys 0) 48 ≡ false → length xs < length ys → value_of xs < value_of ys
longer xs [] h k z l = absurd (omega arith)
longer xs (y ∷ ys) h k z l =
    let b = and_true _ _ k in
    let some : y ≢ 48 = grind (arith, nat_tests) in
    let low = digit_low y b.0 in
    let below = below_next 0 xs h in
    let least = at_least (10 * 0 + (y - 48)) ys in
    let powers : 10 ^ length xs ≤ 10 ^ length ys = pow-le-pow_right (omega arith) (omega arith) in
    let wide : 1 * 10 ^ length ys ≤ (10 * 0 + (y - 48)) * 10 ^ length ys = mul-le-mul_right (10 ^ length ys) (omega (arith, low, some)) in
    omega (arith, below, least, powers, wide)

-- what a plain decimal is
record Plain (ds : List ℕ) : Type 0 where
  pub some : 0 < length ds
  pub digits : list_all is_ascii_digit ds ≡ true
  pub lead : 1 < length ds → nat_eq (slice_index ds 0) 48 ≡ false

plain : (most : ℕ) (ds : List ℕ) → is_decimal_to most ds ≡ true → Plain ds
unfolding is_decimal_to is_decimal
plain most ds h =
    let a = and_true _ _ h in
    let b = and_true _ _ a.0 in
    let c = and_true _ _ b.0 in
    let some : nat_lt 0 (length ds) ≡ true = c.0 in
    record { some = grind (arith, nat_tests); digits = c.1; lead = λ l. by (length ds == 1) l refl b.1 }
  where
    by : (o : Bool) → 1 < length ds → nat_eq (length ds) 1 ≡ o → (o || not (slice_index ds 0 == 48)) ≡ true → nat_eq (slice_index ds 0) 48 ≡ false
    by true l e h = absurd (let one : length ds ≡ 1 = grind (arith, nat_tests) in omega arith)
    by false l e h = not_true _ h

-- two plain decimals of one number are the same
pub same_spelling : (most : ℕ) (xs ys : List ℕ) → is_decimal_to most xs ≡ true → is_decimal_to most ys ≡ true → value_of xs ≡ value_of ys → xs ≡ ys
same_spelling most xs ys h k e = by (nat_lt (length xs) (length ys)) (nat_lt (length ys) (length xs)) refl refl
  where
    p : Plain xs
    p = plain most xs h

    q : Plain ys
    q = plain most ys k

    by : (a b : Bool) → nat_lt (length xs) (length ys) ≡ a → nat_lt (length ys) (length xs) ≡ b → xs ≡ ys
    by true b f g =
        let l : length xs < length ys = grind (arith, nat_tests) in
        absurd (omega (arith, e, longer xs ys p.digits q.digits (q.lead (omega (arith, p.some))) l))
    by false true f g =
        let l : length ys < length xs = grind (arith, nat_tests) in
        absurd (omega (arith, e, longer ys xs q.digits p.digits (p.lead (omega (arith, q.some))) l))
    by false false f g =
        let l : length xs ≡ length ys = grind (arith, nat_tests) in
        (same_long 0 0 xs ys p.digits q.digits l e).1

pub same_number : (most : ℕ) (xs ys : List ℕ) → is_decimal_to most xs ≡ true → is_decimal_to most ys ≡ true → number_to most xs ≡ number_to most ys → xs ≡ ys
unfolding number_to
same_number most xs ys h k e = same_spelling most xs ys h k (rw (h, k) at e)
