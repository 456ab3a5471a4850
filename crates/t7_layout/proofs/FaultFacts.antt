-- The fault of the least row, one row at a time.
use Rattle.std.proofs.Common.{◌≡◌, ◌<◌, ◌+◌, ◌-◌, ◌∙◌, ℕ, zero, suc, List, [], ◌∷◌, Bool, true, false, Option, Some, None, ◌≤◌, length, drop, take, get_or, drop-cons, add-one, refl, ap, sym, arith, cond, nat_eq, option_map, ◌≢◌}
use Rattle.std.proofs.lemmas.Bool.Decides.{nat_tests}
use Rattle.std.proofs.lemmas.List.{drop_all}
use Rattle.t7_layout.specs.declared.roles.FieldName.TheVariants.{BodyLen}
use Rattle.t7_layout.proofs.RowFacts.{NoOverlap, next_row, no_row}
use Rattle.t7_records.specs.Records.{Record, record_at}
use Rattle.t7_layout.specs.declared.words.Family.{Family}
use Rattle.t7_layout.specs.declared.words.TableWhy.{TableWhy}
use Rattle.t7_layout.specs.declared.roles.FieldName.{FieldName}
use Rattle.t7_layout.specs.declared.words.TableWhy.TheVariants as why
use Rattle.t7_layout.specs.Faults.{IsValid, begin_with, fails_cell, fails_columns, fails_duplicate_id, fails_duplicate_name, fails_family, fails_header, fails_hole, fails_kind, fails_length, fails_null, fails_overlap, fails_role_field, fails_width, fault_at, fault_of, first_of, least_fault, looked_at, row_fault}
use Rattle.t7_layout.specs.Rows.{is_field, is_heading}

pub least_next : (fault : ℕ → Option TableWhy) (at more : ℕ) → 0 < more → fault at ≡ None → least_fault fault at more ≡ least_fault fault (at + 1) (more - 1)
unfolding least_fault
least_next fault at zero h e = absurd (omega arith)
least_next fault at (suc more) h e =
    let n : suc more - 1 ≡ more = omega arith in
    rw (e, n) refl

pub least_found : (fault : ℕ → Option TableWhy) (at more : ℕ) (why : TableWhy) → 0 < more → fault at ≡ Some why → least_fault fault at more ≡ Some (record { row = at + 1; why = why })
unfolding least_fault
least_found fault at zero why h e = absurd (omega arith)
least_found fault at (suc more) why h e = rw e refl

pub least_none : (fault : ℕ → Option TableWhy) (at more : ℕ) → more ≡ 0 → least_fault fault at more ≡ None
unfolding least_fault
least_none fault at more e = rw e refl

-- a header, one field at a time
pub header_next : (family : Family) (name : FieldName) (names : List FieldName) (row : Record) (rows : List Record)
    → is_field family name row ≡ true → begin_with family (name ∷ names) (row ∷ rows) ≡ begin_with family names rows
unfolding begin_with
header_next family name names row rows e = rw e refl

pub header_wrong : (family : Family) (name : FieldName) (names : List FieldName) (row : Record) (rows : List Record)
    → is_field family name row ≡ false → begin_with family (name ∷ names) (row ∷ rows) ≡ false
unfolding begin_with
header_wrong family name names row rows e = rw e refl

pub header_short : (family : Family) (name : FieldName) (names : List FieldName) → begin_with family (name ∷ names) [] ≡ false
unfolding begin_with
header_short family name names = refl

pub header_done : (family : Family) (rows : List Record) → begin_with family [] rows ≡ true
unfolding begin_with
header_done family rows = refl

-- no record at all: the heading is not there
pub empty_fault : (rows : List Record) → length rows ≡ 0 → fault_of rows ≡ Some (record { row = 1; why = why.Columns })
unfolding fault_of looked_at least_fault fault_at is_heading
empty_fault [] e = refl
empty_fault (row ∷ rows) e = absurd (omega arith)

pub looked_at_all : (rows : List Record) → 0 < length rows → looked_at rows ≡ length rows
unfolding looked_at
looked_at_all rows h = omega arith

-- the fields from i on, against the rows from start + i on
abbrev pub from_here : Family → List FieldName → List Record → ℕ → ℕ → ℕ → Bool
from_here family names rows at start i = begin_with family (drop i names) (drop (start + i) (take (at + 1) rows))

name_here : (family : Family) (names : List FieldName) (rest : List Record) (i : ℕ) → i < length names
    → begin_with family (drop i names) rest ≡ begin_with family (get_or names i BodyLen ∷ drop (i + 1) names) rest
name_here family names rest i h =
    ap (λ (ns : List FieldName). begin_with family ns rest) (drop-cons names i BodyLen h ∙ ap (λ (n : ℕ). get_or names i BodyLen ∷ drop n names) (sym (add-one i)))

pub here_short : (family : Family) (names : List FieldName) (rows : List Record) (at start i : ℕ) → i < length names → start ≤ at → at - start < i
    → from_here family names rows at start i ≡ false
here_short family names rows at start i h b past =
    name_here family names (drop (start + i) (take (at + 1) rows)) i h
    ∙ ap (begin_with family (get_or names i BodyLen ∷ drop (i + 1) names)) (no_row rows (start + i) at (omega arith))
    ∙ header_short family (get_or names i BodyLen) (drop (i + 1) names)

row_here : (family : Family) (names : List FieldName) (rows : List Record) (at start i : ℕ) → i < length names → start + i ≤ at → at < length rows
    → from_here family names rows at start i ≡ begin_with family (get_or names i BodyLen ∷ drop (i + 1) names) (record_at rows (start + i) ∷ drop (start + i + 1) (take (at + 1) rows))
row_here family names rows at start i h b inside =
    name_here family names (drop (start + i) (take (at + 1) rows)) i h
    ∙ ap (begin_with family (get_or names i BodyLen ∷ drop (i + 1) names)) (next_row rows (start + i) at b inside)

pub here_wrong : (family : Family) (names : List FieldName) (rows : List Record) (at start i : ℕ) → i < length names → start + i ≤ at → at < length rows
    → is_field family (get_or names i BodyLen) (record_at rows (start + i)) ≡ false → from_here family names rows at start i ≡ false
here_wrong family names rows at start i h b inside e = row_here family names rows at start i h b inside ∙ header_wrong family _ _ _ _ e

pub here_right : (family : Family) (names : List FieldName) (rows : List Record) (at start i : ℕ) → i < length names → start + i ≤ at → at < length rows
    → is_field family (get_or names i BodyLen) (record_at rows (start + i)) ≡ true → from_here family names rows at start i ≡ from_here family names rows at start (i + 1)
here_right family names rows at start i h b inside e =
    let place : start + i + 1 ≡ start + (i + 1) = omega arith in
    row_here family names rows at start i h b inside ∙ header_next family _ _ _ _ e
    ∙ ap (λ (n : ℕ). begin_with family (drop (i + 1) names) (drop n (take (at + 1) rows))) place

pub here_done : (family : Family) (names : List FieldName) (rows : List Record) (at start i : ℕ) → length names ≤ i → from_here family names rows at start i ≡ true
here_done family names rows at start i h =
    ap (λ (ns : List FieldName). begin_with family ns (drop (start + i) (take (at + 1) rows))) (drop_all i names h) ∙ header_done family (drop (start + i) (take (at + 1) rows))

-- where there is no fault, no row has one
pub none_below : (fault : ℕ → Option TableWhy) (at more : ℕ) → least_fault fault at more ≡ None → (k : ℕ) → at ≤ k → k < at + more → fault k ≡ None
unfolding least_fault
none_below fault at zero e k a b = absurd (omega arith)
none_below fault at (suc more) e k a b = by (fault at) refl e (λ h c. none_below fault (at + 1) more h k c (omega arith))
  where
    by : (o : Option TableWhy) → fault at ≡ o → first_of (option_map (λ why. record { row = at + 1; why = why }) o) (least_fault fault (at + 1) more) ≡ None
        → (least_fault fault (at + 1) more ≡ None → at + 1 ≤ k → fault k ≡ None) → fault k ≡ None
    by (Some why) f h rest = cc h
    by None f h rest = split (nat_eq k at) refl
      where
        split : (t : Bool) → nat_eq k at ≡ t → fault k ≡ None
        split true t = let s : k ≡ at = grind (arith, nat_tests) in rw s f
        split false t = let d : k ≢ at = grind (arith, nat_tests) in rest h (omega arith)

passed : (b : Bool) (x : TableWhy) (rest : Option TableWhy) → cond b (Some x) rest ≡ None → (b ≡ false) × (rest ≡ None)
passed true x rest h = cc h
passed false x rest h = (refl, h)

-- a row with no fault fails none of the tests
pub record Passes (rows : List Record) (at : ℕ) : Type 0 where
  pub columns : fails_columns (record_at rows at) ≡ false
  pub family : fails_family (record_at rows at) ≡ false
  pub cells : fails_cell (record_at rows at) ≡ false
  pub kind : fails_kind (record_at rows at) ≡ false
  pub width : fails_width (record_at rows at) ≡ false
  pub null : fails_null (record_at rows at) ≡ false
  pub duplicate_id : fails_duplicate_id rows at ≡ false
  pub duplicate_name : fails_duplicate_name rows at ≡ false
  pub overlap : fails_overlap rows at ≡ false
  pub hole : fails_hole rows at ≡ false
  pub length : fails_length rows at ≡ false
  pub header : fails_header rows at ≡ false
  pub role_field : fails_role_field rows at ≡ false

pub passes : (rows : List Record) (at : ℕ) → row_fault rows at ≡ None → Passes rows at
unfolding row_fault
passes rows at h =
    let a = passed _ _ _ h in
    let b = passed _ _ _ a.1 in
    let c = passed _ _ _ b.1 in
    let d = passed _ _ _ c.1 in
    let e = passed _ _ _ d.1 in
    let f = passed _ _ _ e.1 in
    let g = passed _ _ _ f.1 in
    let i = passed _ _ _ g.1 in
    let j = passed _ _ _ i.1 in
    let k = passed _ _ _ j.1 in
    let l = passed _ _ _ k.1 in
    let m = passed _ _ _ l.1 in
    let n = passed _ _ _ m.1 in
    record { columns = a.0; family = b.0; cells = c.0; kind = d.0; width = e.0; null = f.0; duplicate_id = g.0; duplicate_name = i.0; overlap = j.0; hole = k.0; length = l.0; header = m.0; role_field = n.0 }

pub first_none : {X : Type 0} (a b : Option X) → first_of a b ≡ None → (a ≡ None) × (b ≡ None)
first_none None b h = (refl, h)
first_none (Some x) b h = cc h

pub some_rows : (rows : List Record) → IsValid rows → 0 < length rows
some_rows [] h = cc (h, empty_fault [] refl)
some_rows (row ∷ rows) h = omega arith

-- every row behind the heading of valid records passes
pub valid_passes : (rows : List Record) → IsValid rows → (at : ℕ) → 0 < at → at < length rows → Passes rows at
unfolding fault_of fault_at
valid_passes rows h at first inside =
    let least = (first_none _ _ h).0 in
    let none = none_below (fault_at rows) 0 (looked_at rows) least at (omega arith) (omega (arith, looked_at_all rows (some_rows rows h))) in
    let n : nat_eq at 0 ≡ false = grind (arith, nat_tests) in
    passes rows at (rw n at none)

pub valid_no_overlap : (rows : List Record) → IsValid rows → NoOverlap rows
valid_no_overlap rows h j first inside = (valid_passes rows h j first inside).overlap
