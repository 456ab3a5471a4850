-- The number that stands for no value, kept as a word of 64 bits.
use Rattle.std.proofs.Common.{◌≡◌, ◌≢◌, ◌<◌, ◌≤◌, ◌^◌, ◌/◌, inl, inr, ℕ, suc, zero, ℤ, pos, negsuc, neg_ℤ, true, Option, Some, None, refl, ap, arith}
use Rattle.std.specs.Prelude.{IfSome, is_some}
use Rattle.std.specs.Int.{w64}
use Rattle.std.proofs.lemmas.Int.{ints, to_z-of_z}
use Rattle.t7_layout.specs.declared.words.Kind.{Kind}
use Rattle.t7_layout.specs.declared.words.Kind.TheVariants.{Unsigned, Signed, Raw}
use Rattle.t7_layout.specs.Layouts.{IsInRange, IsNumberWidth}
use Rattle.t7_layout.specs.Nulls.{IsWordNumber, kept_null, null_word}

-- the numbers of a width are no more than those of a word
wide : (w : ℕ) → IsNumberWidth w → (256 ^ w ≤ 2 ^ 64) × (256 ^ w / 2 ≤ 2 ^ 63)
wide w (inl e) = rw e (omega arith, omega arith)
wide w (inr (inl e)) = rw e (omega arith, omega arith)
wide w (inr (inr (inl e))) = rw e (omega arith, omega arith)
wide w (inr (inr (inr e))) = rw e (omega arith, omega arith)

unsigned_word : (n : ℕ) → n < 2 ^ 64 → IsWordNumber (pos n)
unsigned_word n h = (omega (arith, ints), omega (arith, ints))

below_word : (n : ℕ) → n ≤ 2 ^ 63 → IsWordNumber (neg_ℤ (pos n))
below_word n h = (omega (arith, ints), omega (arith, ints))

-- the null of a field can be kept as a word
pub is_word : (kind : Kind) (w : ℕ) (null : Option ℤ) → (kind ≢ Raw → IsNumberWidth w) → IfSome null (IsInRange kind w) → IfSome null IsWordNumber
is_word kind w None width h = tt
is_word Unsigned w (Some z) width (n, small, e) = rw e (unsigned_word n (omega (arith, small, (wide w (width (λ k. cc k))).0)))
is_word Signed w (Some z) width (inl (n, small, e)) = rw e (unsigned_word n (omega (arith, small, (wide w (width (λ k. cc k))).1)))
is_word Signed w (Some z) width (inr (n, small, e)) = rw e (below_word n (omega (arith, small, (wide w (width (λ k. cc k))).1)))
is_word Raw w (Some z) width h = absurd h

signed_back : (n : ℕ) → n < 2 ^ 63 → kept_null Signed true (null_word (Some (pos n))) ≡ Some (pos n)
signed_back n h = ap (λ (z : ℤ). Some z) (to_z-of_z w64 (pos n) (record { sfits = h }))

below_back : (n : ℕ) → n ≤ 2 ^ 63 → kept_null Signed true (null_word (Some (neg_ℤ (pos n)))) ≡ Some (neg_ℤ (pos n))
below_back zero h = refl
below_back (suc n) h = ap (λ (z : ℤ). Some z) (to_z-of_z w64 (negsuc n) (record { sfits = omega arith }))

-- and is kept
pub null_kept : (kind : Kind) (w : ℕ) (null : Option ℤ) → (kind ≢ Raw → IsNumberWidth w) → IfSome null (IsInRange kind w) → kept_null kind (is_some null) (null_word null) ≡ null
null_kept kind w None width h = refl
null_kept Unsigned w (Some z) width (n, small, e) = rw e refl
null_kept Signed w (Some z) width (inl (n, small, e)) = rw e (signed_back n (omega (arith, small, (wide w (width (λ k. cc k))).1)))
null_kept Signed w (Some z) width (inr (n, small, e)) = rw e (below_back n (omega (arith, small, (wide w (width (λ k. cc k))).1)))
null_kept Raw w (Some z) width h = absurd h
