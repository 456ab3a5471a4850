-- The nulls of valid rows.
use Rattle.std.proofs.Common.{◌≡◌, ◌≤◌, ◌≢◌, ◌+◌, ◌-◌, ◌/◌, ◌^◌, inl, inr, ℕ, ℤ, pos, neg_ℤ, List, [], ◌∷◌, Bool, true, false, not, Option, Some, None, length, drop, refl, ap, sym, arith, cond, nat_lt, nat_le, nat_eq, ◌&&◌, ◌||◌, ◌==◌, is_none}
use Rattle.std.specs.Prelude.{IfSome, slice_index}
use Rattle.std.specs.Option.{option_eq}
use Rattle.std.specs.Ordering.{int_eq}
use Rattle.std.specs.Str.{bytes_eq}
use Rattle.std.proofs.lemmas.Bool.Decides.{Decides-int_eq, nat_tests}
use Rattle.t7_records.specs.Numbers.{is_decimal, is_decimal_to, value_of}
use Rattle.t7_records.specs.Records.{Record, cell}
use Rattle.t7_layout.specs.declared.words.Kind.TheVariants.{Unsigned, Signed, Raw}
use Rattle.t7_layout.specs.declared.roles.FieldName.{FieldName}
use Rattle.t7_layout.specs.declared.roles.FieldName.TheVariants.{BodyLen, TemplateID}
use Rattle.t7_layout.specs.Roles.{field_text}
use Rattle.t7_layout.specs.Layouts.{IsExtreme, IsInRange, IsNumberWidth}
use Rattle.t7_layout.specs.Lookups.{IsRoleNull}
use Rattle.t7_layout.specs.Faults.{fails_null, fails_width, has_extreme_null, is_length_or_id, is_required, is_width}
use Rattle.t7_layout.specs.Rows.{greatest, has_kind, row_kind, row_null, row_width, signed_null, unsigned_null}
use Rattle.t7_layout.specs.Tables.{place_of}

not_false : (a : Bool) → not a ≡ false → a ≡ true
not_false true h = refl
not_false false h = cc h

and_true : (a b : Bool) → (a && b) ≡ true → (a ≡ true) × (b ≡ true)
and_true true b h = (refl, h)
and_true false b h = cc h

or_false : (a b : Bool) → (a || b) ≡ false → (a ≡ false) × (b ≡ false)
or_false true b h = cc h
or_false false b h = (refl, h)

-- the width of a number
pub number_width : (w : ℕ) → is_width w ≡ true → IsNumberWidth w
unfolding is_width
number_width w h = by (w == 1) (w == 2) (w == 4) (w == 8) refl refl refl refl h
  where
    by : (a b c d : Bool) → nat_eq w 1 ≡ a → nat_eq w 2 ≡ b → nat_eq w 4 ≡ c → nat_eq w 8 ≡ d → (a || b || c || d) ≡ true → IsNumberWidth w
    by true b c d ea eb ec ed h = inl (grind (arith, nat_tests))
    by false true c d ea eb ec ed h = inr (inl (grind (arith, nat_tests)))
    by false false true d ea eb ec ed h = inr (inr (inl (grind (arith, nat_tests))))
    by false false false true ea eb ec ed h = inr (inr (inr (grind (arith, nat_tests))))
    by false false false false ea eb ec ed h = cc h

-- the greatest number is one less than how many numbers there are
pub greatest_is : (w : ℕ) → IsNumberWidth w → 256 ^ w ≡ greatest w + 1
unfolding greatest
greatest_is w (inl e) = rw e refl
greatest_is w (inr (inl e)) = rw e refl
greatest_is w (inr (inr (inl e))) = rw e refl
greatest_is w (inr (inr (inr e))) = rw e refl

pub half_is : (w : ℕ) → IsNumberWidth w → 256 ^ w / 2 ≡ greatest w / 2 + 1
unfolding greatest
half_is w (inl e) = rw e refl
half_is w (inr (inl e)) = rw e refl
half_is w (inr (inr (inl e))) = rw e refl
half_is w (inr (inr (inr e))) = rw e refl

decimal_limit : (most : ℕ) (ds : List ℕ) → is_decimal_to most ds ≡ true → value_of ds ≤ most
unfolding is_decimal_to
decimal_limit most ds h =
    let limit : nat_le (value_of ds) most ≡ true = (and_true _ _ h).1 in
    grind (arith, nat_tests)

unsigned_range : (w : ℕ) (word : List ℕ) → IsNumberWidth w → IfSome (unsigned_null w word) (IsInRange Unsigned w)
unfolding unsigned_null
unsigned_range w word width = by (is_decimal_to (greatest w) word) refl
  where
    by : (b : Bool) → is_decimal_to (greatest w) word ≡ b → IfSome (cond b (Some (pos (value_of word))) None) (IsInRange Unsigned w)
    by true e = (value_of word, omega (arith, greatest_is w width, decimal_limit (greatest w) word e), refl)
    by false e = tt

signed_range : (w : ℕ) (word : List ℕ) → IsNumberWidth w → IfSome (signed_null w word) (IsInRange Signed w)
unfolding signed_null
signed_range w word width = by (slice_index word 0 == 45)
  where
    low : (b c : Bool) → is_decimal_to (greatest w / 2 + 1) (drop 1 word) ≡ b → IfSome (cond (b && c) (Some (neg_ℤ (pos (value_of (drop 1 word))))) None) (IsInRange Signed w)
    low true true e = inr (value_of (drop 1 word), omega (arith, half_is w width, decimal_limit (greatest w / 2 + 1) (drop 1 word) e), refl)
    low true false e = tt
    low false c e = tt

    high : (b : Bool) → is_decimal_to (greatest w / 2) word ≡ b → IfSome (cond b (Some (pos (value_of word))) None) (IsInRange Signed w)
    high true e = inl (value_of word, omega (arith, half_is w width, decimal_limit (greatest w / 2) word e), refl)
    high false e = tt

    by : (b : Bool) → IfSome (cond b (cond (is_decimal_to (greatest w / 2 + 1) (drop 1 word) && nat_lt 0 (value_of (drop 1 word))) (Some (neg_ℤ (pos (value_of (drop 1 word))))) None)
        (cond (is_decimal_to (greatest w / 2) word) (Some (pos (value_of word))) None)) (IsInRange Signed w)
    by true = low (is_decimal_to (greatest w / 2 + 1) (drop 1 word)) (nat_lt 0 (value_of (drop 1 word))) refl
    by false = high (is_decimal_to (greatest w / 2) word) refl

-- a number of a valid row has one of four widths
pub row_number_width : (row : Record) → fails_width row ≡ false → row_kind row ≢ Raw → IsNumberWidth (row_width row)
unfolding fails_width row_kind
row_number_width row h k = by (has_kind Unsigned row) (has_kind Signed row) h k
  where
    width : not (is_width (row_width row)) ≡ false → IsNumberWidth (row_width row)
    width e = number_width (row_width row) (not_false _ e)

    by : (a b : Bool) → ((a || b) && not (is_width (row_width row))) ≡ false → cond a Unsigned (cond b Signed Raw) ≢ Raw → IsNumberWidth (row_width row)
    by true b h k = width h
    by false true h k = width h
    by false false h k = absurd (k refl)

-- the null of a row is one that its bytes can spell
pub row_range : (row : Record) → fails_width row ≡ false → IfSome (row_null row) (IsInRange (row_kind row) (row_width row))
unfolding fails_width row_kind row_null
row_range row h = by (has_kind Unsigned row) (has_kind Signed row) h
  where
    width : not (is_width (row_width row)) ≡ false → IsNumberWidth (row_width row)
    width e = number_width (row_width row) (not_false _ e)

    by : (a b : Bool) → ((a || b) && not (is_width (row_width row))) ≡ false
        → IfSome (cond a (unsigned_null (row_width row) (cell row 7)) (cond b (signed_null (row_width row) (cell row 7)) None)) (IsInRange (cond a Unsigned (cond b Signed Raw)) (row_width row))
    by true b h = unsigned_range (row_width row) (cell row 7) (width h)
    by false true h = signed_range (row_width row) (cell row 7) (width h)
    by false false h = tt

none_of_empty : (w : ℕ) → (unsigned_null w [] ≡ None) × (signed_null w [] ≡ None)
unfolding unsigned_null signed_null is_decimal_to is_decimal
none_of_empty w = (refl, refl)

empty_cell : (word : List ℕ) → nat_eq (length word) 0 ≡ true → word ≡ []
empty_cell [] h = refl
empty_cell (x ∷ xs) h = let e : length (x ∷ xs) ≡ 0 = grind (arith, nat_tests) in absurd (omega arith)

-- an empty cell is no null
empty_null : (row : Record) → nat_eq (length (cell row 7)) 0 ≡ true → row_null row ≡ None
unfolding row_null
empty_null row h = rw (empty_cell (cell row 7) h) (by (has_kind Unsigned row) (has_kind Signed row))
  where
    by : (a b : Bool) → cond a (unsigned_null (row_width row) []) (cond b (signed_null (row_width row) []) None) ≡ None
    by true b = (none_of_empty (row_width row)).0
    by false true = (none_of_empty (row_width row)).1
    by false false = refl

-- the length and the id of a message have no null
pub unset_null : (row : Record) → is_length_or_id row ≡ true → fails_null row ≡ false → row_null row ≡ None
unfolding fails_null
unset_null row named h = by (length (cell row 7) == 0) refl h
  where
    by : (b : Bool) → nat_eq (length (cell row 7)) 0 ≡ b
        → (not b && (is_none (row_null row) || is_length_or_id row || (is_required row && not (has_extreme_null row)))) ≡ false → row_null row ≡ None
    by true e h = empty_null row e
    by false e h =
        let no : is_length_or_id row ≡ false = (or_false _ _ (or_false _ _ h).0).1 in
        cc (named, no)

same_null : (null : Option ℤ) (z : ℤ) → option_eq int_eq null (Some z) ≡ true → null ≡ Some z
same_null None z h = cc h
same_null (Some y) z h = ap (λ (x : ℤ). Some x) ((Decides-int_eq y z).0 h)

extreme : (row : Record) → fails_width row ≡ false → has_extreme_null row ≡ true → IfSome (row_null row) (IsExtreme (row_kind row) (row_width row))
unfolding fails_width row_kind has_extreme_null row_null
extreme row h e = by (has_kind Unsigned row) (has_kind Signed row) h e
  where
    width : not (is_width (row_width row)) ≡ false → IsNumberWidth (row_width row)
    width e = number_width (row_width row) (not_false _ e)

    by : (a b : Bool) → ((a || b) && not (is_width (row_width row))) ≡ false
        → cond a (option_eq int_eq (cond a (unsigned_null (row_width row) (cell row 7)) (cond b (signed_null (row_width row) (cell row 7)) None)) (Some (pos (greatest (row_width row)))))
        (option_eq int_eq (cond a (unsigned_null (row_width row) (cell row 7)) (cond b (signed_null (row_width row) (cell row 7)) None)) (Some (neg_ℤ (pos (greatest (row_width row) / 2 + 1))))) ≡ true
        → IfSome (cond a (unsigned_null (row_width row) (cell row 7)) (cond b (signed_null (row_width row) (cell row 7)) None)) (IsExtreme (cond a Unsigned (cond b Signed Raw)) (row_width row))
    by true b h e =
        let most : greatest (row_width row) ≡ 256 ^ row_width row - 1 = omega (arith, greatest_is (row_width row) (width h)) in
        rw (same_null (unsigned_null (row_width row) (cell row 7)) (pos (greatest (row_width row))) e) (ap pos most)
    by false true h e =
        rw (same_null (signed_null (row_width row) (cell row 7)) (neg_ℤ (pos (greatest (row_width row) / 2 + 1))) e)
        (ap (λ (n : ℕ). neg_ℤ (pos n)) (sym (half_is (row_width row) (width h))))
    by false false h e = tt

named_length : (row : Record) (name : FieldName) → bytes_eq (cell row 3) (field_text name) ≡ true → name ≡ BodyLen → is_length_or_id row ≡ true
unfolding is_length_or_id
named_length row name h e =
    let named : bytes_eq (cell row 3) (field_text BodyLen) ≡ true = rw e at h in
    rw named refl

named_id : (row : Record) (name : FieldName) → bytes_eq (cell row 3) (field_text name) ≡ true → name ≡ TemplateID → is_length_or_id row ≡ true
unfolding is_length_or_id
named_id row name h e =
    let named : bytes_eq (cell row 3) (field_text TemplateID) ≡ true = rw e at h in
    by (bytes_eq (cell row 3) (field_text BodyLen)) named
  where
    by : (a : Bool) → bytes_eq (cell row 3) (field_text TemplateID) ≡ true → (a || bytes_eq (cell row 3) (field_text TemplateID)) ≡ true
    by true h = refl
    by false h = h

required_null : (row : Record) → is_required row ≡ true → fails_width row ≡ false → fails_null row ≡ false → IfSome (row_null row) (IsExtreme (row_kind row) (row_width row))
unfolding fails_null
required_null row asked width h = by (length (cell row 7) == 0) refl h
  where
    wanted : (r e : Bool) → r ≡ true → (r && not e) ≡ false → e ≡ true
    wanted true true r h = refl
    wanted true false r h = cc h
    wanted false e r h = cc r

    by : (b : Bool) → nat_eq (length (cell row 7)) 0 ≡ b
        → (not b && (is_none (row_null row) || is_length_or_id row || (is_required row && not (has_extreme_null row)))) ≡ false
        → IfSome (row_null row) (IsExtreme (row_kind row) (row_width row))
    by true e h = rw (empty_null row e) tt
    by false e h = extreme row width (wanted (is_required row) (has_extreme_null row) asked (or_false _ _ h).1)

-- the null of a field that a role requires
pub role_null : (size : ℕ) (row : Record) (name : FieldName) → bytes_eq (cell row 3) (field_text name) ≡ true → is_required row ≡ true → fails_width row ≡ false → fails_null row ≡ false
    → IsRoleNull name (place_of size row)
unfolding place_of
role_null size row name named asked width null = record {
  extreme = required_null row asked width null;
  body = λ e. unset_null row (named_length row name named e) null;
  id = λ e. unset_null row (named_id row name named e) null;
}
