-- A field of a template lies within the bytes of a view, and says its number where it says one.
use Rattle.std.proofs.Common.{◌≡◌, ◌≤◌, ◌+◌, ℕ, List, Bool, true, false, Some, None, length, arith, cond, refl}
use Rattle.std.specs.Prelude.{Contains, is_some, ℤ, pos}
use Rattle.std.specs.Ordering.{int_eq}
use Rattle.std.specs.Option.{option_eq}
use Rattle.t7_layout.specs.Layouts.{IsLayout, IsPlace, Layout, Place}
use Rattle.t7_fields.specs.Spelling.{Fits, known_signed, known_unsigned}

pub in_room : (t : Layout) (b : List ℕ) (f : Place) → IsLayout t → IsPlace f → Contains t.fields f → Fits t b → f.offset + f.width ≤ length b
in_room t b f l p there fits = omega (arith, l.spans f there, p.within, fits.room)

-- what is there under a test is what would be there without it
kept : {X : Type 0} (b : Bool) (x : X) → is_some (cond b None (Some x)) ≡ true → cond b None (Some x) ≡ Some x
kept true x h = cc h
kept false x h = refl

pub unsigned_known : (f : Place) (n : ℕ) → is_some (known_unsigned f n) ≡ true → known_unsigned f n ≡ Some n
unfolding known_unsigned
unsigned_known f n h = kept (option_eq int_eq f.null (Some (pos n))) n h

pub signed_known : (f : Place) (z : ℤ) → is_some (known_signed f z) ≡ true → known_signed f z ≡ Some z
unfolding known_signed
signed_known f z h = kept (option_eq int_eq f.null (Some z)) z h
