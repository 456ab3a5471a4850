-- The bytes of a message in which nothing is put.
use Rattle.std.proofs.Common.{◌≡◌, ◌≢◌, inl, inr, ◌<◌, ◌≤◌, ◌+◌, ◌-◌, ◌*◌, ◌/◌, ◌^◌, ◌∙◌, ◌++◌, ℕ, zero, suc, List, [], ◌∷◌, Option, Some, None, length, take, get_or, refl, sym, ap, arith, append_assoc, length-append, add-one}
use Rattle.std.specs.Prelude.{IfSome, ℤ, pos, negsuc}
use Rattle.std.proofs.lemmas.List.{append-nil, length-replicate, take_all}
use Rattle.std.proofs.Math.Nat.{one-le-pow}
use Rattle.byteorder.specs.Numbers.{length-bytes_low_first}
use Rattle.t7_layout.specs.declared.words.Family.{Family}
use Rattle.t7_layout.specs.declared.words.Family.TheVariants.{Eti, Eobi}
use Rattle.t7_layout.specs.declared.words.Kind.{Kind}
use Rattle.t7_layout.specs.declared.words.Kind.TheVariants.{Unsigned, Signed, Raw}
use Rattle.t7_layout.specs.declared.roles.FieldName.TheVariants as name
use Rattle.t7_layout.specs.Layouts.{IsInRange, IsPlace, LaidOut, Place}
use Rattle.t7_layout.specs.Roles.{width_in}
use Rattle.t7_layout.specs.Images.{IsHeld, complement, length_width, null_bytes, number_bytes, unset_bytes}
use Rattle.t7_layout.proofs.BytesFacts.{halves}

-- ---- numbers that a field can hold

pub not_raw : (k : Kind) (w : ℕ) (z : ℤ) → k ≡ Raw → IsHeld k w z → ⊥
unfolding IsHeld
not_raw Unsigned w z e h = cc e
not_raw Signed w z e h = cc e
not_raw Raw w (pos n) e h = h
not_raw Raw w (negsuc n) e h = h

pub held : (k : Kind) (w : ℕ) (z : ℤ) → 1 ≤ w → IsInRange k w z → IsHeld k w z
unfolding IsHeld
held Unsigned w z low r = let (n, fits, is) = r in rw is fits
held Signed w z low (inl r) = let (n, fits, is) = r in let e = halves w low in rw is (omega arith)
held Signed w z low (inr (zero, fits, is)) = let some = one-le-pow (8 * w - 1) 2 (omega arith) in rw is (omega arith)
held Signed w z low (inr (suc n, fits, is)) = let e = halves w low in rw is (omega arith)
held Raw w z low r = absurd r

null_held : (f : Place) → IsPlace f → IfSome f.null (IsHeld f.kind f.width)
null_held f p = by f.null p.null
  where
    by : (o : Option ℤ) → IfSome o (IsInRange f.kind f.width) → IfSome o (IsHeld f.kind f.width)
    by None h = h
    by (Some z) h = held f.kind f.width z p.some h

-- the null of a field is a number that it can hold
pub record HasNull (f : Place) (null : ℤ) : Type 0 where
  pub held : IsHeld f.kind f.width null
  pub narrow : f.width ≤ 8

pub has_null : (f : Place) (null : ℤ) → IsPlace f → f.null ≡ Some null → HasNull f null
has_null f null p e =
    let h : IsHeld f.kind f.width null = rw e at (null_held f p) in
    record { held = h; narrow = p.narrow (λ raw. not_raw f.kind f.width null raw h) }

-- ---- lengths

pub body_width : (family : Family) → width_in family name.BodyLen ≡ length_width family
unfolding width_in length_width
body_width Eti = refl
body_width Eobi = refl

pub length_room : (family : Family) (n : ℕ) → n ≤ 1024 → n < 256 ^ length_width family
unfolding length_width
length_room Eti n h = omega arith
length_room Eobi n h = omega arith

pub length_width_is : (family : Family) → (2 ≤ length_width family) × (length_width family ≤ 4)
unfolding length_width
length_width_is Eti = (omega arith, omega arith)
length_width_is Eobi = (omega arith, omega arith)

pub number_length : (w : ℕ) (z : ℤ) → length (number_bytes w z) ≡ w
unfolding number_bytes
number_length w z = length-bytes_low_first 0 w (complement w z)

pub null_length : (w : ℕ) (null : Option ℤ) → length (null_bytes w null) ≡ w
unfolding null_bytes
null_length w None = length-replicate w 0
null_length w (Some z) = number_length w z

pub unset_length : (from : ℕ) (fs : List Place) (to : ℕ) → LaidOut from fs to → from + length (unset_bytes fs) ≡ to
unfolding unset_bytes
unset_length from [] to l = omega (arith, l)
unset_length from (f ∷ fs) to l =
    let rest = unset_length (from + f.width) fs to l.1 in
    let wide = null_length f.width f.null in
    let whole = length-append (null_bytes f.width f.null) (unset_bytes fs) in
    omega arith

-- ---- one field more

more : (fs : List Place) (i : ℕ) (d : Place) → i < length fs → unset_bytes (take (suc i) fs) ≡ unset_bytes (take i fs) ++ null_bytes (get_or fs i d).width (get_or fs i d).null
unfolding unset_bytes
more [] i d h = absurd (omega arith)
more (f ∷ fs) zero d h = append-nil (null_bytes f.width f.null)
more (f ∷ fs) (suc i) d h =
    rw (more fs i d (omega arith)) (sym (append_assoc (null_bytes f.width f.null) (unset_bytes (take i fs)) (null_bytes (get_or fs i d).width (get_or fs i d).null)))

pub unset_more : (fs : List Place) (i : ℕ) (f : Place) → i < length fs → f ≡ get_or fs i f → unset_bytes (take (i + 1) fs) ≡ unset_bytes (take i fs) ++ null_bytes f.width f.null
unset_more fs i f h is =
    ap (λ (n : ℕ). unset_bytes (take n fs)) (add-one i) ∙ more fs i f h ∙ ap (λ (g : Place). unset_bytes (take i fs) ++ null_bytes g.width g.null) (sym is)

pub unset_all : (fs : List Place) (i : ℕ) → length fs ≤ i → unset_bytes (take i fs) ≡ unset_bytes fs
unset_all fs i h = ap unset_bytes (take_all i fs h)
