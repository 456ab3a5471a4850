-- Numbers and their bytes, both ways.
use Rattle.std.proofs.Common.{◌≡◌, ◌≤◌, ◌<◌, ◌+◌, ◌-◌, ◌*◌, ◌/◌, ◌%◌, ◌^◌, ◌∙◌, ℕ, zero, suc, List, [], ◌∷◌, Bool, true, false, length, refl, sym, ap, subst, arith, cond, nat_lt}
use Rattle.std.proofs.Math.Nat.{div-div-eq-div-mul, div-one, pow-le-pow_right, pow-succ'}
use Rattle.std.proofs.lemmas.List.{append-nil}
use Rattle.std.proofs.lemmas.Nat.{pow-add}
use Rattle.std.proofs.lemmas.Int.{ints}
use Rattle.std.proofs.lemmas.Bool.Decides.{nat_tests}
use Rattle.std.specs.Int.{byte_at, bytes_low_first, cast_unsigned, w32, w64}
use Rattle.std.specs.Prelude.{ℤ, pos, negsuc, ◌-ℤ◌, slice_index}
use Rattle.byteorder.specs.Endian.{little_bytes, little_from, little_number, low_bytes, twos_complement}
use Rattle.byteorder.specs.Numbers.{little_from-cons, little_number-reads_back}
use Rattle.t7_layout.specs.declared.words.Kind.{Kind}
use Rattle.t7_layout.specs.declared.words.Kind.TheVariants.{Unsigned, Signed, Raw}
use Rattle.t7_layout.specs.Images.{IsHeld, complement, number_bytes}

byte_by_power : (k x : ℕ) → byte_at k x ≡ x / 256 ^ k % 256
byte_by_power zero x = ap (λ (y : ℕ). y % 256) (sym (div-one x))
byte_by_power (suc k) x = refl

byte_up : (j x : ℕ) → byte_at (suc j) x ≡ byte_at j (x / 256)
byte_up j x =
    ap (λ (p : ℕ). x / p % 256) (pow-succ' 256 j) ∙ ap (λ (y : ℕ). y % 256) (sym (div-div-eq-div-mul x 256 (256 ^ j))) ∙ sym (byte_by_power j (x / 256))

bytes_up : (n j x : ℕ) → bytes_low_first (suc j) n x ≡ bytes_low_first j n (x / 256)
bytes_up zero j x = refl
bytes_up (suc n) j x = rw (byte_up j x, bytes_up n (suc j) x) refl

-- bytes that are read as a number are the bytes of that number
pub bytes_again : (xs : List ℕ) → ((i : ℕ) → slice_index xs i < 256) → little_bytes (length xs) (little_number (length xs) xs) ≡ xs
bytes_again [] fits = refl
bytes_again (x ∷ xs) fits =
    let first : x < 256 = fits 0 in
    let rest = bytes_again xs (λ i. fits (suc i)) in
    let high : ℕ = little_from 0 (length xs) xs in
    let low : (x + 256 * high) % 256 ≡ x = omega arith in
    let up : (x + 256 * high) / 256 ≡ high = omega arith in
    let tail : bytes_low_first 1 (length xs) (x + 256 * high) ≡ xs = bytes_up (length xs) 0 (x + 256 * high) ∙ ap (λ (m : ℕ). bytes_low_first 0 (length xs) m) up ∙ rest in
    ap (λ (m : ℕ). little_bytes (suc (length xs)) (x + 256 * m)) (little_from-cons 0 (length xs) x xs)
    ∙ ap (λ (t : List ℕ). (x + 256 * high) % 256 ∷ t) tail
    ∙ ap (λ (h : ℕ). h ∷ xs) low

-- a number is read back from its bytes
pub number_again : (n x : ℕ) → x < 256 ^ n → little_number n (little_bytes n x) ≡ x
number_again n x h = ap (little_number n) (sym (append-nil (little_bytes n x))) ∙ little_number-reads_back n x [] h

-- 256 to a power, and its half
whole : (w : ℕ) → 256 ^ w ≡ 2 ^ (8 * w)
whole zero = refl
whole (suc w) =
    let e : 8 * suc w ≡ 8 + 8 * w = omega arith in
    pow-succ' 256 w ∙ ap (λ (p : ℕ). 256 * p) (whole w) ∙ sym (pow-add 2 8 (8 * w)) ∙ ap (λ (k : ℕ). 2 ^ k) (sym e)

pub halves : (w : ℕ) → 1 ≤ w → 256 ^ w ≡ 2 * 2 ^ (8 * w - 1)
halves w h =
    let e : 8 * w ≡ suc (8 * w - 1) = omega arith in
    whole w ∙ ap (λ (k : ℕ). 2 ^ k) e ∙ pow-succ' 2 (8 * w - 1)

-- the number that stands for a number fits its bytes
pub complement_fits : (k : Kind) (w : ℕ) (z : ℤ) → 1 ≤ w → IsHeld k w z → complement w z < 256 ^ w
unfolding IsHeld complement
complement_fits Unsigned w (pos n) low h = h
complement_fits Unsigned w (negsuc n) low h = absurd h
complement_fits Signed w (pos n) low h = let e = halves w low in omega arith
complement_fits Signed w (negsuc n) low h = let e = halves w low in omega arith
complement_fits Raw w (pos n) low h = absurd h
complement_fits Raw w (negsuc n) low h = absurd h

-- a signed number is read back from the number that stands for it
pub signed_again : (w : ℕ) (z : ℤ) → 1 ≤ w → IsHeld Signed w z → twos_complement w (complement w z) ≡ z
unfolding IsHeld complement
signed_again w (pos n) low h =
    let t : nat_lt n (2 ^ (8 * w - 1)) ≡ true = grind (arith, nat_tests) in
    rw t refl
signed_again w (negsuc n) low h =
    let e = halves w low in
    let p = whole w in
    let m : ℕ = 256 ^ w - (n + 1) in
    let t : nat_lt m (2 ^ (8 * w - 1)) ≡ false = grind (arith, nat_tests) in
    let d : pos m -ℤ pos (2 ^ (8 * w)) ≡ negsuc n = omega (arith, ints) in
    ap (λ (b : Bool). cond b (pos m) (pos m -ℤ pos (2 ^ (8 * w)))) t ∙ d

-- the number that bytes are read as is held, and stands for itself again
pub record IsComplement (w n : ℕ) (z : ℤ) : Type 0 where
  pub held : IsHeld Signed w z
  pub again : complement w z ≡ n

pub complement_again : (w n : ℕ) → 1 ≤ w → n < 256 ^ w → IsComplement w n (twos_complement w n)
unfolding IsHeld complement
complement_again w n low h = by (nat_lt n (2 ^ (8 * w - 1))) refl
  where
    by : (b : Bool) → nat_lt n (2 ^ (8 * w - 1)) ≡ b → IsComplement w n (cond b (pos n) (pos n -ℤ pos (2 ^ (8 * w))))
    by true t = record { held = grind (arith, nat_tests); again = refl }
    by false t =
        let e = halves w low in
        let p = whole w in
        let high : 2 ^ (8 * w - 1) ≤ n = grind (arith, nat_tests) in
        let m : ℕ = 256 ^ w - (n + 1) in
        let d : pos n -ℤ pos (2 ^ (8 * w)) ≡ negsuc m = omega (arith, ints) in
        let P : ℤ → Type 0 = λ z. IsComplement w n z in
        subst P (sym d) (record { held = omega arith; again = omega arith })

low_bytes_at : (w : ℕ) (z : ℤ) → w ≤ 7 → IsHeld Signed (suc w) z → low_bytes w64 (suc w) z ≡ complement (suc w) z
unfolding IsHeld complement
low_bytes_at zero (pos n) high h = omega arith
low_bytes_at (suc zero) (pos n) high h = omega arith
low_bytes_at (suc (suc zero)) (pos n) high h = omega arith
low_bytes_at (suc (suc (suc zero))) (pos n) high h = omega arith
low_bytes_at (suc (suc (suc (suc zero)))) (pos n) high h = omega arith
low_bytes_at (suc (suc (suc (suc (suc zero))))) (pos n) high h = omega arith
low_bytes_at (suc (suc (suc (suc (suc (suc zero)))))) (pos n) high h = omega arith
low_bytes_at (suc (suc (suc (suc (suc (suc (suc zero))))))) (pos n) high h = omega arith
low_bytes_at zero (negsuc n) high h = omega arith
low_bytes_at (suc zero) (negsuc n) high h = omega arith
low_bytes_at (suc (suc zero)) (negsuc n) high h = omega arith
low_bytes_at (suc (suc (suc zero))) (negsuc n) high h = omega arith
low_bytes_at (suc (suc (suc (suc zero)))) (negsuc n) high h = omega arith
low_bytes_at (suc (suc (suc (suc (suc zero))))) (negsuc n) high h = omega arith
low_bytes_at (suc (suc (suc (suc (suc (suc zero)))))) (negsuc n) high h = omega arith
low_bytes_at (suc (suc (suc (suc (suc (suc (suc zero))))))) (negsuc n) high h = omega arith
low_bytes_at (suc (suc (suc (suc (suc (suc (suc (suc w)))))))) z high h = absurd (omega arith)

-- the lowest bytes of a signed number of 64 bits are those of the number that stands for it
pub low_complement : (w : ℕ) (z : ℤ) → 1 ≤ w → w ≤ 8 → IsHeld Signed w z → low_bytes w64 w z ≡ complement w z
low_complement zero z low high h = absurd (omega arith)
low_complement (suc w) z low high h = low_bytes_at w z (omega arith) h

-- an unsigned number of at most 8 bytes is one of 64 bits
pub record IsLong (z : ℤ) : Type 0 where
  pub n : ℕ
  pub is : z ≡ pos n
  pub fits : n < 2 ^ 64

pub held_long : (k : Kind) (w : ℕ) (z : ℤ) → k ≡ Unsigned → w ≤ 8 → IsHeld k w z → IsLong z
unfolding IsHeld
held_long Unsigned w (pos n) e high h = let m = pow-le-pow_right {n = 256} (omega arith) high in record { n = n; is = refl; fits = omega arith }
held_long Unsigned w (negsuc n) e high h = absurd h
held_long Signed w z e high h = cc e
held_long Raw w z e high h = cc e

-- its bytes at a place
pub low_written : (w : ℕ) (z : ℤ) → 1 ≤ w → w ≤ 8 → IsHeld Signed w z → little_bytes w (low_bytes w64 w z) ≡ number_bytes w z
unfolding number_bytes
low_written w z low high h = ap (little_bytes w) (low_complement w z low high h)

-- a signed number of 32 or 64 bits, taken as an unsigned one, is the number that stands for it
pub word_complement : (z : ℤ) → IsHeld Signed 4 z → cast_unsigned w32 z ≡ complement 4 z
unfolding IsHeld complement
word_complement (pos n) h = omega arith
word_complement (negsuc n) h = omega arith

pub long_complement : (z : ℤ) → IsHeld Signed 8 z → cast_unsigned w64 z ≡ complement 8 z
unfolding IsHeld complement
long_complement (pos n) h = omega arith
long_complement (negsuc n) h = omega arith
