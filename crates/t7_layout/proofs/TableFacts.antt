-- The templates, one row at a time.
use Rattle.std.proofs.Common.{◌≡◌, ◌<◌, ◌≤◌, ◌+◌, ◌-◌, ◌∙◌, ℕ, zero, suc, List, [], ◌∷◌, ◌++◌, Bool, true, false, length, refl, ap, sym, subst, arith, add-one, zero-add, nat_lt, nat_le, cond, ◌&&◌, ◌||◌, ◌==◌, ◌%◌, ◌≢◌, not, nat_eq, map, get_or, is_some, Some, None, length-append}
use Rattle.std.specs.Prelude.{Contains, slice_get}
use Rattle.std.specs.List.{IsDistinct, list_any}
use Rattle.std.specs.Str.{bytes_eq}
use Rattle.std.proofs.Math.Seq.{get_or-append_seam}
use Rattle.std.proofs.lemmas.Cmp.{nat_list_eq_equiv}
use Rattle.std.proofs.lemmas.Map.Keys.{IsDistinct-push}
use Rattle.std.proofs.lemmas.Slice.Eq.{bytes_eq-Decides}
use Rattle.t7_records.specs.Numbers.{is_decimal, is_decimal_to, number_to, value_of}
use Rattle.t7_layout.specs.declared.roles.FieldName.{FieldName}
use Rattle.t7_layout.specs.declared.roles.FieldName.TheVariants.{BodyLen, TemplateID, MsgSeqNum}
use Rattle.t7_layout.specs.declared.words.Kind.TheVariants.{Unsigned, Signed, Raw}
use Rattle.t7_layout.specs.declared.words.Family.{Family}
use Rattle.t7_layout.specs.declared.words.Family.TheVariants.{Eti, Eobi}
use Rattle.t7_layout.specs.Faults.{begin_with, fails_cell, fails_duplicate_name, fails_header, fails_hole, fails_length, fails_null, fails_overlap, fails_width, is_length_or_id, is_width}
use Rattle.t7_layout.proofs.FaultFacts.{Passes}
use Rattle.t7_layout.proofs.LookupFacts.{one_kind}
use Rattle.t7_layout.proofs.NullFacts.{row_number_width, row_range, unset_null}
use Rattle.t7_layout.proofs.RowFacts.{past_first}
use Rattle.std.proofs.lemmas.List.{append-nil, get_or_append_left, get_or-map, length-map, map-append}
use Rattle.std.proofs.lemmas.Bool.Decides.{nat_tests}
use Rattle.t7_records.specs.Records.{Record, cell, record_at}
use Rattle.t7_layout.specs.Layouts.{HasHeader, IsHeaderField, IsLayout, IsPlace, LaidOut, Layout, Place}
use Rattle.t7_layout.specs.Roles.{field_text, kind_of, width_in}
use Rattle.t7_layout.specs.Rows.{begins, earlier_in, end_before, ends, has_kind, in_family, is_field, is_name, role_of, row_end, row_family, row_id, row_kind, row_null, row_offset, row_width, same_cell, so_far}
use Rattle.t7_layout.specs.Tables.{layout_at, layouts_before, place_of, row_name}

pub before_first : (rows : List Record) → layouts_before rows 1 ≡ []
unfolding layouts_before
before_first rows = refl

pub more_last : (rows : List Record) (at : ℕ) → 0 < at → ends rows at ≡ true → layouts_before rows (at + 1) ≡ layouts_before rows at ++ layout_at rows at ∷ []
unfolding layouts_before
more_last rows at h e =
    let t : nat_lt 0 at ≡ true = grind (arith, nat_tests) in
    rw (add-one at, layouts_before, t, e) refl

pub more_inner : (rows : List Record) (at : ℕ) → 0 < at → ends rows at ≡ false → layouts_before rows (at + 1) ≡ layouts_before rows at
unfolding layouts_before
more_inner rows at h e =
    let t : nat_lt 0 at ≡ true = grind (arith, nat_tests) in
    rw (add-one at, layouts_before, t, e) (append-nil (layouts_before rows at))

not_false : (a : Bool) → not a ≡ false → a ≡ true
not_false true h = refl
not_false false h = cc h

and_true : (a b : Bool) → (a && b) ≡ true → (a ≡ true) × (b ≡ true)
and_true true b h = (refl, h)
and_true false b h = cc h

-- a field of a valid row has bytes
pub some_bytes : (row : Record) → fails_cell row ≡ false → 1 ≤ row_width row
unfolding fails_cell
some_bytes row h =
    let wide : nat_lt 0 (row_width row) ≡ true = (and_true _ _ (not_false _ h)).1 in
    grind (arith, nat_tests)

narrow_width : (w : ℕ) → is_width w ≡ true → w ≤ 8
unfolding is_width
narrow_width w h = by (w == 1) (w == 2) (w == 4) (w == 8) refl refl refl refl h
  where
    by : (a b c d : Bool) → nat_eq w 1 ≡ a → nat_eq w 2 ≡ b → nat_eq w 4 ≡ c → nat_eq w 8 ≡ d → (a || b || c || d) ≡ true → w ≤ 8
    by true b c d ea eb ec ed h = grind (arith, nat_tests)
    by false true c d ea eb ec ed h = grind (arith, nat_tests)
    by false false true d ea eb ec ed h = grind (arith, nat_tests)
    by false false false true ea eb ec ed h = grind (arith, nat_tests)
    by false false false false ea eb ec ed h = cc h

-- a number of a valid row has at most 8 bytes
pub narrow_row : (row : Record) → fails_width row ≡ false → row_kind row ≢ Raw → row_width row ≤ 8
unfolding fails_width row_kind
narrow_row row h k = by (has_kind Unsigned row) (has_kind Signed row) h k
  where
    width : not (is_width (row_width row)) ≡ false → row_width row ≤ 8
    width e = narrow_width (row_width row) (not_false _ e)

    by : (a b : Bool) → ((a || b) && not (is_width (row_width row))) ≡ false → cond a Unsigned (cond b Signed Raw) ≢ Raw → row_width row ≤ 8
    by true b h k = width h
    by false true h k = width h
    by false false h k = absurd (k refl)

pub is_place : (size : ℕ) (row : Record) → fails_cell row ≡ false → fails_width row ≡ false → row_end row ≤ size → IsPlace (place_of size row)
unfolding place_of row_end
is_place size row cells width within = record {
  some = some_bytes row cells;
  within = within;
  narrow = narrow_row row width;
  number = row_number_width row width;
  null = row_range row width;
}

spans : (size : ℕ) (rows : List Record) (f : Place) → Contains (map (place_of size) rows) f → f.span ≡ size
unfolding place_of
spans size [] f c = let (k, inside, e) = c in absurd (omega arith)
spans size (row ∷ rows) f c = let (k, inside, e) = c in by k inside e (spans size rows f)
  where
    by : (k : ℕ) → k < length (map (place_of size) (row ∷ rows)) → get_or (map (place_of size) (row ∷ rows)) k f ≡ f → (Contains (map (place_of size) rows) f → f.span ≡ size) → f.span ≡ size
    by zero inside e more = sym (ap (λ (g : Place). g.span) e)
    by (suc k) inside e more = more (k, omega arith, e)

ends_past : (row : Record) → row_width row ≤ row_end row
unfolding row_end
ends_past row = omega arith

lengths : (rows : List Record) (at : ℕ) → ends rows at ≡ true → fails_length rows at ≡ false → (row_end (record_at rows at) % 8 ≡ 0) × (row_end (record_at rows at) ≤ 1024)
unfolding fails_length
lengths rows at last h =
    let n = row_end (record_at rows at) in
    by (n % 8 == 0) (nat_lt 1024 n) refl refl (rw last at h)
  where
    by : (a b : Bool) → nat_eq (row_end (record_at rows at) % 8) 0 ≡ a → nat_lt 1024 (row_end (record_at rows at)) ≡ b
        → (not a || b || (in_family Eobi (record_at rows at) && is_some (role_of (record_at rows at)) && nat_lt 128 (row_end (record_at rows at)))) ≡ false
        → (row_end (record_at rows at) % 8 ≡ 0) × (row_end (record_at rows at) ≤ 1024)
    by true false e f h = (grind (arith, nat_tests), grind (arith, nat_tests))
    by true true e f h = cc h
    by false b e f h = cc h

laid_end : (from : ℕ) (fs : List Place) (to : ℕ) (f : Place) → LaidOut from fs to → f.offset ≡ to → LaidOut from (fs ++ f ∷ []) (to + f.width)
laid_end from [] to f h e = (e ∙ sym h, ap (λ (n : ℕ). n + f.width) h)
laid_end from (g ∷ gs) to f h e = (h.0, laid_end (from + g.width) gs to f h.1 e)

exact : (rows : List Record) (at : ℕ) → fails_overlap rows at ≡ false → fails_hole rows at ≡ false → row_offset (record_at rows at) ≡ end_before rows at
unfolding fails_overlap fails_hole
exact rows at o h =
    let a : end_before rows at ≤ row_offset (record_at rows at) = grind (arith, nat_tests) in
    let b : row_offset (record_at rows at) ≤ end_before rows at = grind (arith, nat_tests) in
    omega (arith, a, b)

-- the fields so far lie one after another, where each row so far passes
laid_so_far : (rows : List Record) (size at : ℕ) → ((j : ℕ) → 0 < j → j ≤ at → Passes rows j) → 0 < at → LaidOut 0 (map (place_of size) (so_far rows at)) (row_end (record_at rows at))
unfolding so_far end_before row_end place_of
laid_so_far rows size zero p h = absurd (omega arith)
laid_so_far rows size (suc k) p h =
    let here = p (suc k) (omega arith) (omega arith) in
    by (begins rows (suc k)) refl (exact rows (suc k) here.overlap here.hole) (laid_so_far rows size k (λ j first below. p j first (omega arith)))
  where
    back : suc k - 1 ≡ k
    back = omega arith

    by : (b : Bool) → begins rows (suc k) ≡ b → row_offset (record_at rows (suc k)) ≡ cond b 0 (row_offset (record_at rows (suc k - 1)) + row_width (record_at rows (suc k - 1)))
        → (0 < k → LaidOut 0 (map (place_of size) (so_far rows k)) (row_offset (record_at rows k) + row_width (record_at rows k)))
        → LaidOut 0 (map (place_of size) (cond b [] (so_far rows k) ++ (record_at rows (suc k) ∷ []))) (row_offset (record_at rows (suc k)) + row_width (record_at rows (suc k)))
    by true e o more = (o, omega arith)
    by false e o more =
        let some : 0 < k = (let past = past_first rows (suc k) (omega arith) e in omega (arith, past)) in
        let place : row_offset (record_at rows (suc k)) ≡ row_offset (record_at rows k) + row_width (record_at rows k) = rw back at o in
        let row : Record = record_at rows (suc k) in
        let laid = laid_end 0 (map (place_of size) (so_far rows k)) (row_offset (record_at rows k) + row_width (record_at rows k)) (place_of size row) (more some) place in
        let P : ℕ → Type 0 = λ n. LaidOut 0 (map (place_of size) (so_far rows k) ++ place_of size row ∷ []) (n + row_width row) in
        rw (map-append (place_of size) (so_far rows k) (row ∷ [])) (subst P (sym place) laid)

-- a row of the template of the row at a place, up to that row
pub record RowOf (rows : List Record) (at : ℕ) (row : Record) : Type 0 where
  pub place : ℕ
  pub first : 0 < place
  pub below : place ≤ at
  pub is : row ≡ record_at rows place

-- each row so far is a row of the table
pub row_of : (rows : List Record) (at k : ℕ) → 0 < at → k < length (so_far rows at) → RowOf rows at (get_or (so_far rows at) k [])
unfolding so_far
row_of rows zero k first inside = absurd (omega arith)
row_of rows (suc at) k first inside = by (begins rows (suc at)) inside refl (λ some below. row_of rows at k some below)
  where
    last : RowOf rows (suc at) (record_at rows (suc at))
    last = record { place = suc at; first = first; below = omega arith; is = refl }

    wide : RowOf rows at (get_or (so_far rows at) k []) → RowOf rows (suc at) (get_or (so_far rows at) k [])
    wide r = record { place = r.place; first = r.first; below = omega (arith, r.below); is = r.is }

    only : k < length (record_at rows (suc at) ∷ []) → RowOf rows (suc at) (get_or (record_at rows (suc at) ∷ []) k [])
    only h = let e : k ≡ 0 = omega arith in rw e last

    more : 0 < at → k < length (so_far rows at ++ record_at rows (suc at) ∷ []) → (0 < at → k < length (so_far rows at) → RowOf rows at (get_or (so_far rows at) k []))
        → RowOf rows (suc at) (get_or (so_far rows at ++ record_at rows (suc at) ∷ []) k [])
    more some h rest = split (nat_lt k (length (so_far rows at))) refl
      where
        split : (b : Bool) → nat_lt k (length (so_far rows at)) ≡ b → RowOf rows (suc at) (get_or (so_far rows at ++ record_at rows (suc at) ∷ []) k [])
        split true e =
            let below : k < length (so_far rows at) = grind (arith, nat_tests) in
            rw (get_or_append_left (so_far rows at) (record_at rows (suc at) ∷ []) [] k below) (wide (rest some below))
        split false e =
            let past : length (so_far rows at) ≤ k = grind (arith, nat_tests) in
            let here : k ≡ length (so_far rows at) = omega (arith, length-append (so_far rows at) (record_at rows (suc at) ∷ [])) in
            rw (here, get_or-append_seam (so_far rows at) (record_at rows (suc at)) [] []) last

    by : (b : Bool) → k < length (cond b [] (so_far rows at) ++ record_at rows (suc at) ∷ []) → begins rows (suc at) ≡ b
        → (0 < at → k < length (so_far rows at) → RowOf rows at (get_or (so_far rows at) k []))
        → RowOf rows (suc at) (get_or (cond b [] (so_far rows at) ++ record_at rows (suc at) ∷ []) k [])
    by true h e rest = only h
    by false h e rest =
        let past = past_first rows (suc at) (omega arith) e in
        more (omega (arith, past)) h rest

-- each field of a template is that of a row
pub record FieldOf (size : ℕ) (rows : List Record) (at : ℕ) (f : Place) : Type 0 where
  pub place : ℕ
  pub first : 0 < place
  pub below : place ≤ at
  pub is : f ≡ place_of size (record_at rows place)

pub field_of : (size : ℕ) (rows : List Record) (at : ℕ) (f : Place) → 0 < at → Contains (map (place_of size) (so_far rows at)) f → FieldOf size rows at f
field_of size rows at f first c =
    let (k, inside, e) = c in
    let below : k < length (so_far rows at) = omega (arith, inside, length-map (so_far rows at) (place_of size)) in
    let r = row_of rows at k first below in
    record {
      place = r.place;
      first = r.first;
      below = r.below;
      is = sym e ∙ get_or-map (place_of size) (so_far rows at) k [] f below ∙ ap (place_of size) r.is;
    }

ends_later : (from : ℕ) (fs : List Place) (to : ℕ) → LaidOut from fs to → from ≤ to
ends_later from [] to h = omega arith
ends_later from (f ∷ fs) to h = omega (arith, ends_later (from + f.width) fs to h.1)

-- a field that is laid out ends before the end
pub laid_below : (from : ℕ) (fs : List Place) (to k : ℕ) (f : Place) → LaidOut from fs to → k < length fs → get_or fs k f ≡ f → f.offset + f.width ≤ to
laid_below from [] to k f h inside e = absurd (omega arith)
laid_below from (g ∷ gs) to zero f h inside e =
    let s : g.offset + g.width ≤ to = omega (arith, h.0, ends_later (from + g.width) gs to h.1) in
    let P : Place → Type 0 = λ (p : Place). p.offset + p.width ≤ to in
    subst P e s
laid_below from (g ∷ gs) to (suc k) f h inside e = laid_below (from + g.width) gs to k f h.1 (omega arith) e

-- the names of a template, of which none stands twice
flipped : (xs : List Record) (row : Record) → list_any (λ (earlier : Record). same_cell 3 earlier row) xs ≡ list_any (bytes_eq (row_name row)) (map row_name xs)
unfolding same_cell row_name
flipped [] row = refl
flipped (x ∷ xs) row = rw (flipped xs row, nat_list_eq_equiv.symm (cell x 3) (cell row 3)) refl

repeats : (a b : Bool) → (a || b) ≡ false → b ≡ false
repeats true b h = cc h
repeats false b h = h

pub distinct_names : (rows : List Record) (at : ℕ) → ((j : ℕ) → 0 < j → j ≤ at → Passes rows j) → IsDistinct bytes_eq (map row_name (so_far rows at))
unfolding so_far fails_duplicate_name earlier_in IsDistinct
distinct_names rows zero p = tt
distinct_names rows (suc at) p =
    let new = repeats _ _ (p (suc at) (omega arith) (omega arith)).duplicate_name in
    by (begins rows (suc at)) new (distinct_names rows at (λ j first below. p j first (omega arith)))
  where
    back : suc at - 1 ≡ at
    back = omega arith

    by : (b : Bool) → list_any (λ (earlier : Record). same_cell 3 earlier (record_at rows (suc at))) (cond b [] (so_far rows (suc at - 1))) ≡ false
        → IsDistinct bytes_eq (map row_name (so_far rows at)) → IsDistinct bytes_eq (map row_name (cond b [] (so_far rows at) ++ (record_at rows (suc at) ∷ [])))
    by true new more = (tt, tt)
    by false new more =
        let fresh : list_any (bytes_eq (row_name (record_at rows (suc at)))) (map row_name (so_far rows at)) ≡ false = sym (flipped (so_far rows at) (record_at rows (suc at))) ∙ (rw back at new) in
        rw (map-append row_name (so_far rows at) (record_at rows (suc at) ∷ [])) (IsDistinct-push nat_list_eq_equiv (map row_name (so_far rows at)) (row_name (record_at rows (suc at))) more fresh)

-- a template of its rows, whose last one is given
abbrev pub layout_from : Record → List Record → Layout
layout_from last rows = record {
  family = row_family last;
  id = row_id last;
  name = cell last 2;
  size = row_end last;
  names = map row_name rows;
  fields = map (place_of (row_end last)) rows;
}

pub layout_at_from : (rows : List Record) (at : ℕ) → layout_at rows at ≡ layout_from (record_at rows at) (so_far rows at)
unfolding layout_at
layout_at_from rows at = refl

field_parts : (family : Family) (name : FieldName) (row : Record) → is_field family name row ≡ true
    → (cell row 3 ≡ field_text name) × (row_kind row ≡ kind_of name) × (row_width row ≡ width_in family name)
unfolding is_field
field_parts family name row h =
    let x = and_true _ _ h in
    let y = and_true _ _ x.0 in
    let same : nat_eq (row_width row) (width_in family name) ≡ true = x.1 in
    let width : row_width row ≡ width_in family name = grind (arith, nat_tests) in
    ((bytes_eq-Decides (cell row 3) (field_text name)).0 y.0, one_kind (row_kind row) (kind_of name) y.1, width)

-- the field of a row in a header
head_field : (t : Layout) (place : ℕ) (name : FieldName) (offset size : ℕ) (row : Record) → is_field t.family name row ≡ true → kind_of name ≡ Unsigned
    → slice_get t.fields place ≡ Some (place_of size row) → slice_get t.names place ≡ Some (row_name row) → row_offset row ≡ offset
    → IsHeaderField t place name offset (place_of size row)
unfolding place_of row_name
head_field t place name offset size row h kind there named at =
    let parts = field_parts t.family name row h in
    record {
      there = there;
      named = named ∙ ap (λ (w : List ℕ). Some w) parts.0;
      offset_is = at;
      width_is = parts.2;
      kind_is = parts.1 ∙ kind;
    }

named_of : (family : Family) (name : FieldName) (row : Record) → is_field family name row ≡ true → bytes_eq (cell row 3) (field_text name) ≡ true
unfolding is_field
named_of family name row h = (and_true _ _ (and_true _ _ h).0).0

length_named : (family : Family) (row : Record) → is_field family BodyLen row ≡ true → is_length_or_id row ≡ true
unfolding is_length_or_id
length_named family row h = rw (named_of family BodyLen row h) refl

id_named : (family : Family) (row : Record) → is_field family TemplateID row ≡ true → is_length_or_id row ≡ true
unfolding is_length_or_id
id_named family row h = rw (named_of family TemplateID row h) (by (bytes_eq (cell row 3) (field_text BodyLen)))
  where
    by : (b : Bool) → (b || true) ≡ true
    by true = refl
    by false = refl

null_of : (size : ℕ) (row : Record) → row_null row ≡ None → (place_of size row).null ≡ None
unfolding place_of
null_of size row h = h

offset_of : (size : ℕ) (row : Record) → (place_of size row).offset ≡ row_offset row
unfolding place_of
offset_of size row = refl

width_of : (size : ℕ) (row : Record) → (place_of size row).width ≡ row_width row
unfolding place_of
width_of size row = refl

no_null : (rows : List Record) (k : ℕ) → ((k : ℕ) → k < length rows → fails_null (get_or rows k []) ≡ false) → k < length rows → is_length_or_id (get_or rows k []) ≡ true
    → row_null (get_or rows k []) ≡ None
no_null rows k nulls inside named = unset_null (get_or rows k []) named (nulls k inside)

no_more : (b : Bool) → (b && false) ≡ true → ⊥
no_more true h = cc h
no_more false h = cc h

body_kind : kind_of BodyLen ≡ Unsigned
unfolding kind_of
body_kind = refl

id_kind : kind_of TemplateID ≡ Unsigned
unfolding kind_of
id_kind = refl

number_kind : kind_of MsgSeqNum ≡ Unsigned
unfolding kind_of
number_kind = refl

eobi_widths : 0 + width_in Eobi BodyLen + width_in Eobi TemplateID ≡ 4
unfolding width_in
eobi_widths = refl

eti_header : (last : Record) (rows : List Record) → row_family last ≡ Eti → begin_with Eti (BodyLen ∷ TemplateID ∷ []) rows ≡ true
    → LaidOut 0 (map (place_of (row_end last)) rows) (row_end last) → ((k : ℕ) → k < length rows → fails_null (get_or rows k []) ≡ false) → HasHeader (layout_from last rows)
unfolding begin_with
eti_header last [] family h laid nulls = cc h
eti_header last (a ∷ []) family h laid nulls = absurd (no_more (is_field Eti BodyLen a) h)
eti_header last (a ∷ b ∷ rest) family h laid nulls =
    let one = and_true _ _ h in
    let two = and_true _ _ one.1 in
    let size : ℕ = row_end last in
    let wide : row_width a ≡ width_in Eti BodyLen = (field_parts Eti BodyLen a one.0).2 in
    let first : row_offset a ≡ 0 = sym (offset_of size a) ∙ laid.0 in
    let second : row_offset b ≡ width_in Eti BodyLen = sym (offset_of size b) ∙ laid.1.0 ∙ (ap (λ (n : ℕ). 0 + n) (width_of size a ∙ wide)) ∙ zero-add (width_in Eti BodyLen) in
    record {
      body = place_of size a;
      body_is = head_field (layout_from last (a ∷ b ∷ rest)) 0 BodyLen 0 size a (rw family one.0) body_kind refl refl first;
      body_null = null_of size a (unset_null a (length_named Eti a one.0) (nulls 0 (omega arith)));
      id = place_of size b;
      id_is = head_field (layout_from last (a ∷ b ∷ rest)) 1 TemplateID (width_in (row_family last) BodyLen) size b (rw family two.0) id_kind refl refl (rw family second);
      id_null = null_of size b (unset_null b (id_named Eti b two.0) (nulls 1 (omega arith)));
      number = λ e. cc (family, e);
    }

eobi_header : (last : Record) (rows : List Record) → row_family last ≡ Eobi → begin_with Eobi (BodyLen ∷ TemplateID ∷ MsgSeqNum ∷ []) rows ≡ true
    → LaidOut 0 (map (place_of (row_end last)) rows) (row_end last) → ((k : ℕ) → k < length rows → fails_null (get_or rows k []) ≡ false) → HasHeader (layout_from last rows)
unfolding begin_with
eobi_header last [] family h laid nulls = cc h
eobi_header last (a ∷ []) family h laid nulls = absurd (no_more (is_field Eobi BodyLen a) h)
eobi_header last (a ∷ b ∷ []) family h laid nulls = absurd (no_more (is_field Eobi TemplateID b) (and_true _ _ h).1)
eobi_header last (a ∷ b ∷ c ∷ rest) family h laid nulls =
    let one = and_true _ _ h in
    let two = and_true _ _ one.1 in
    let three = and_true _ _ two.1 in
    let size : ℕ = row_end last in
    let wide : row_width a ≡ width_in Eobi BodyLen = (field_parts Eobi BodyLen a one.0).2 in
    let more : row_width b ≡ width_in Eobi TemplateID = (field_parts Eobi TemplateID b two.0).2 in
    let first : row_offset a ≡ 0 = sym (offset_of size a) ∙ laid.0 in
    let second : row_offset b ≡ width_in Eobi BodyLen = sym (offset_of size b) ∙ laid.1.0 ∙ (ap (λ (n : ℕ). 0 + n) (width_of size a ∙ wide)) ∙ zero-add (width_in Eobi BodyLen) in
    let third : row_offset c ≡ 0 + row_width a + row_width b = sym (offset_of size c) ∙ laid.1.1.0 ∙ (ap (λ (n : ℕ). 0 + n + (place_of size b).width) (width_of size a)) ∙ (ap (λ (n : ℕ). 0 + row_width a + n) (width_of size b)) in
    let fourth : row_offset c ≡ 4 = third ∙ ap (λ (n : ℕ). 0 + n + row_width b) wide ∙ ap (λ (n : ℕ). 0 + width_in Eobi BodyLen + n) more ∙ eobi_widths in
    record {
      body = place_of size a;
      body_is = head_field (layout_from last (a ∷ b ∷ c ∷ rest)) 0 BodyLen 0 size a (rw family one.0) body_kind refl refl first;
      body_null = null_of size a (unset_null a (length_named Eobi a one.0) (nulls 0 (omega arith)));
      id = place_of size b;
      id_is = head_field (layout_from last (a ∷ b ∷ c ∷ rest)) 1 TemplateID (width_in (row_family last) BodyLen) size b (rw family two.0) id_kind refl refl (rw family second);
      id_null = null_of size b (unset_null b (id_named Eobi b two.0) (nulls 1 (omega arith)));
      number = λ e. (place_of size c, head_field (layout_from last (a ∷ b ∷ c ∷ rest)) 2 MsgSeqNum 4 size c (rw family three.0) number_kind refl refl fourth);
    }

eti_row : (row : Record) → in_family Eti row ≡ true → row_family row ≡ Eti
unfolding row_family
eti_row row e = rw e refl

eobi_row : (row : Record) → in_family Eti row ≡ false → row_family row ≡ Eobi
unfolding row_family
eobi_row row e = rw e refl

has_header : (rows : List Record) (at : ℕ) → 0 < at → ends rows at ≡ true → LaidOut 0 (map (place_of (row_end (record_at rows at))) (so_far rows at)) (row_end (record_at rows at))
    → ((j : ℕ) → 0 < j → j ≤ at → Passes rows j) → HasHeader (layout_from (record_at rows at) (so_far rows at))
unfolding fails_header
has_header rows at first last laid each =
    by (in_family Eti (record_at rows at)) refl (rw last at (each at first (omega arith)).header)
  where
    nulls : (k : ℕ) → k < length (so_far rows at) → fails_null (get_or (so_far rows at) k []) ≡ false
    nulls k inside =
        let r = row_of rows at k first inside in
        rw r.is ((each r.place r.first r.below).null)

    by : (b : Bool) → in_family Eti (record_at rows at) ≡ b
        → not (cond b (begin_with Eti (BodyLen ∷ TemplateID ∷ []) (so_far rows at)) (begin_with Eobi (BodyLen ∷ TemplateID ∷ MsgSeqNum ∷ []) (so_far rows at))) ≡ false
        → HasHeader (layout_from (record_at rows at) (so_far rows at))
    by true e h = eti_header (record_at rows at) (so_far rows at) (eti_row (record_at rows at) e) (not_false _ h) laid nulls
    by false e h = eobi_header (record_at rows at) (so_far rows at) (eobi_row (record_at rows at) e) (not_false _ h) laid nulls

-- the cells of a valid row
pub record Cells (row : Record) : Type 0 where
  pub name : is_name (cell row 2) ≡ true
  pub id_decimal : is_decimal_to 65535 (cell row 1) ≡ true
  pub id_some : 1 ≤ row_id row
  pub id_fits : row_id row < 65536

small : (most : ℕ) (ds : List ℕ) → number_to most ds ≤ most
unfolding number_to is_decimal_to
small most ds = by (is_decimal ds) (nat_le (value_of ds) most) refl
  where
    by : (a b : Bool) → nat_le (value_of ds) most ≡ b → cond (a && b) (value_of ds) 0 ≤ most
    by true true e = grind (arith, nat_tests)
    by true false e = omega arith
    by false b e = omega arith

small_id : (row : Record) → row_id row < 65536
unfolding row_id
small_id row = omega (arith, small 65535 (cell row 1))

pub cells_of : (row : Record) → fails_cell row ≡ false → Cells row
unfolding fails_cell
cells_of row h =
    let a = and_true _ _ (not_false _ h) in
    let b = and_true _ _ a.0 in
    let c = and_true _ _ b.0 in
    let d = and_true _ _ c.0 in
    let e = and_true _ _ d.0 in
    let f = and_true _ _ e.0 in
    let some : nat_lt 0 (row_id row) ≡ true = d.1 in
    record { name = f.0; id_decimal = e.1; id_some = grind (arith, nat_tests); id_fits = small_id row }

ends_in : (size : ℕ) (row : Record) → (place_of size row).offset + (place_of size row).width ≤ size → row_end row ≤ size
unfolding place_of row_end
ends_in size row h = h

-- the template of a valid last row
pub is_layout : (rows : List Record) (at : ℕ) → 0 < at → ends rows at ≡ true → ((j : ℕ) → 0 < j → j ≤ at → Passes rows j) → IsLayout (layout_at rows at)
is_layout rows at first last each =
    let p = each at first (omega arith) in
    let some = some_bytes (record_at rows at) p.cells in
    let l = lengths rows at last p.length in
    let c = cells_of (record_at rows at) p.cells in
    let size : ℕ = row_end (record_at rows at) in
    let laid = laid_so_far rows size at each first in
    let places : (f : Place) → Contains (map (place_of size) (so_far rows at)) f → IsPlace f = λ f there. place rows at first each laid f there in
    rw (layout_at_from rows at) (record {
      id_some = c.id_some;
      id_fits = c.id_fits;
      name = c.name;
      long = omega (arith, l.0, some, ends_past (record_at rows at));
      short = l.1;
      eights = l.0;
      spans = spans size (so_far rows at);
      places = places;
      laid = laid;
      header = has_header rows at first last laid each;
      each_named = length-map (so_far rows at) row_name ∙ sym (length-map (so_far rows at) (place_of size));
      distinct = distinct_names rows at each;
    })
  where
    place : (rows : List Record) (at : ℕ) → 0 < at → ((j : ℕ) → 0 < j → j ≤ at → Passes rows j)
        → LaidOut 0 (map (place_of (row_end (record_at rows at))) (so_far rows at)) (row_end (record_at rows at))
        → (f : Place) → Contains (map (place_of (row_end (record_at rows at))) (so_far rows at)) f → IsPlace f
    place rows at first each laid f there =
        let r = field_of (row_end (record_at rows at)) rows at f first there in
        let (k, inside, e) = there in
        let low : f.offset + f.width ≤ row_end (record_at rows at) = laid_below 0 (map (place_of (row_end (record_at rows at))) (so_far rows at)) (row_end (record_at rows at)) k f laid inside e in
        let p = each r.place r.first r.below in
        let P : Place → Type 0 = λ (g : Place). g.offset + g.width ≤ row_end (record_at rows at) in
        rw r.is (is_place (row_end (record_at rows at)) (record_at rows r.place) p.cells p.width (ends_in (row_end (record_at rows at)) (record_at rows r.place) (subst P r.is low)))
