-- Names are text.
use Rattle.std.proofs.Common.{◌≡◌, ◌<◌, ℕ, zero, suc, List, [], ◌∷◌, Bool, true, false, refl, arith, nat_le, nat_eq, ◌&&◌, ◌||◌, ◌==◌}
use Rattle.std.specs.List.{list_all}
use Rattle.std.specs.Str.{IsAscii, IsUtf8}
use Rattle.std.proofs.lemmas.Bool.Decides.{nat_tests}
use Rattle.std.proofs.lemmas.Str.{IsUtf8-from_ascii}
use Rattle.t7_records.specs.Records.{Record, record_at}
use Rattle.t7_layout.specs.Lookups.{is_layout_of, role_of_layout}
use Rattle.t7_layout.specs.Rows.{is_name, is_name_byte, is_of, role_of}
use Rattle.t7_layout.specs.Tables.{layout_at}

and_true : (a b : Bool) → (a && b) ≡ true → (a ≡ true) × (b ≡ true)
and_true true b h = (refl, h)
and_true false b h = cc h

byte_below : (b : ℕ) → is_name_byte b ≡ true → b < 128
byte_below b h = by (nat_le 48 b) (nat_le b 57) (nat_le 65 b) (nat_le b 90) (nat_le 97 b) (nat_le b 122) (b == 95) refl refl refl refl refl refl refl h
  where
    by : (l m n o p q r : Bool) → nat_le 48 b ≡ l → nat_le b 57 ≡ m → nat_le 65 b ≡ n → nat_le b 90 ≡ o → nat_le 97 b ≡ p → nat_le b 122 ≡ q → nat_eq b 95 ≡ r
        → ((((l && m) || (n && o)) || (p && q)) || r) ≡ true → b < 128
    by l true n o p q r el em en eo ep eq er h = grind (arith, nat_tests)
    by l false n true p q r el em en eo ep eq er h = grind (arith, nat_tests)
    by l false n false p true r el em en eo ep eq er h = grind (arith, nat_tests)
    by l false n false p false true el em en eo ep eq er h = grind (arith, nat_tests)
    by true false true false true false false el em en eo ep eq er h = cc h
    by true false true false false false false el em en eo ep eq er h = cc h
    by true false false false true false false el em en eo ep eq er h = cc h
    by true false false false false false false el em en eo ep eq er h = cc h
    by false false true false true false false el em en eo ep eq er h = cc h
    by false false true false false false false el em en eo ep eq er h = cc h
    by false false false false true false false el em en eo ep eq er h = cc h
    by false false false false false false false el em en eo ep eq er h = cc h

bytes_below : (word : List ℕ) → list_all is_name_byte word ≡ true → IsAscii word
bytes_below [] h i = omega arith
bytes_below (b ∷ bs) h zero = byte_below b (and_true _ _ h).0
bytes_below (b ∷ bs) h (suc i) = bytes_below bs (and_true _ _ h).1 i

pub name_text : (word : List ℕ) → is_name word ≡ true → IsUtf8 word
unfolding is_name
name_text word h = IsUtf8-from_ascii word (bytes_below word (and_true _ _ h).1)

-- the role of a last row is that of its template
pub role_same : (rows : List Record) (at : ℕ) → role_of (record_at rows at) ≡ role_of_layout (layout_at rows at)
unfolding role_of role_of_layout is_of is_layout_of layout_at
role_same rows at = refl
