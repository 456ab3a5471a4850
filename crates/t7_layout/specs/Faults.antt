-- Which tables are valid, and what is wrong with the others.
use Rattle.std.specs.Prelude.{ℕ, zero, suc, ◌+◌, ◌%◌, ◌/◌, ◌==◌, ◌&&◌, ◌||◌, ◌≡◌, not, nat_lt, if◌then◌else◌, List, [], ◌∷◌, Bool, true, false, Option, Some, None, is_none, is_some, length, pos, neg_ℤ, take, option_map, max}
use Rattle.std.specs.List.{list_all, list_any}
use Rattle.std.specs.Option.{option_eq, option_map_or}
use Rattle.std.specs.Ordering.{int_eq}
use Rattle.std.specs.Str.{bytes_eq}
use Rattle.t7_records.specs.Numbers.{is_decimal_to}
use Rattle.t7_records.specs.Records.{Record, cell, record_at}
use Rattle.t7_layout.specs.declared.words.Family.{Family}
use Rattle.t7_layout.specs.declared.words.Family.TheVariants.{Eti, Eobi}
use Rattle.t7_layout.specs.declared.words.Kind.TheVariants.{Unsigned, Signed, Raw}
use Rattle.t7_layout.specs.declared.words.TableFault.{TableFault}
use Rattle.t7_layout.specs.declared.words.TableWhy.{TableWhy}
use Rattle.t7_layout.specs.declared.words.TableWhy.TheVariants as why
use Rattle.t7_layout.specs.declared.roles.Role.{Role}
use Rattle.t7_layout.specs.declared.roles.FieldName.{FieldName}
use Rattle.t7_layout.specs.declared.roles.FieldName.TheVariants.{BodyLen, TemplateID, MsgSeqNum}
use Rattle.t7_layout.specs.Roles.{all_roles, family_of, field_text, required}
use Rattle.t7_layout.specs.Rows.{begins, earlier_in, end_before, ends, greatest, has_kind, in_family, is_field, is_heading, is_name, is_of, role_of, row_end, row_id, row_null, row_offset, row_width, same_cell, so_far}

-- The thirteen tests of a row. Each is true where the row fails it.

-- the record has not eight cells
unfoldable pub fails_columns : Record → Bool
fails_columns row = not (length row == 8)

-- the family is neither ETI nor EOBI
unfoldable pub fails_family : Record → Bool
fails_family row = not (in_family Eti row || in_family Eobi row)

-- a name, the id, the offset or the width is not spelled as it should be, or not in its range
unfoldable pub fails_cell : Record → Bool
fails_cell row = not (
    is_name (cell row 2) && is_name (cell row 3)
    && is_decimal_to 65535 (cell row 1) && nat_lt 0 (row_id row)
    && is_decimal_to 1023 (cell row 4)
    && is_decimal_to 1024 (cell row 5) && nat_lt 0 (row_width row))

-- the kind is none of U, I and X
unfoldable pub fails_kind : Record → Bool
fails_kind row = not (has_kind Unsigned row || has_kind Signed row || has_kind Raw row)

-- the widths of numbers
unfoldable pub is_width : ℕ → Bool
is_width width = (width == 1) || (width == 2) || (width == 4) || (width == 8)

-- a number has another width
unfoldable pub fails_width : Record → Bool
fails_width row = (has_kind Unsigned row || has_kind Signed row) && not (is_width (row_width row))

-- the null is the greatest number of its width, or the least for a signed field
unfoldable pub has_extreme_null : Record → Bool
has_extreme_null row =
    if has_kind Unsigned row then option_eq int_eq (row_null row) (Some (pos (greatest (row_width row))))
    else option_eq int_eq (row_null row) (Some (neg_ℤ (pos (greatest (row_width row) / 2 + 1))))

-- the field is one that the role of the template's name requires
unfoldable pub is_required : Record → Bool
is_required row = option_map_or (λ role. list_any (λ name. bytes_eq (cell row 3) (field_text name)) (required role)) (role_of row) false

-- the field is the length of a message or the id of its template
unfoldable pub is_length_or_id : Record → Bool
is_length_or_id row = bytes_eq (cell row 3) (field_text BodyLen) || bytes_eq (cell row 3) (field_text TemplateID)

-- the null is no number of the field; or the field is one that has none; or a role requires the field, and its null is not the extreme number of its width
unfoldable pub fails_null : Record → Bool
fails_null row =
    not (length (cell row 7) == 0) && (is_none (row_null row) || is_length_or_id row || (is_required row && not (has_extreme_null row)))

-- the row begins a template whose family and id an earlier row has
unfoldable pub fails_duplicate_id : List Record → ℕ → Bool
fails_duplicate_id rows at =
    begins rows at && list_any (λ earlier. same_cell 0 earlier (record_at rows at) && same_cell 1 earlier (record_at rows at)) (take at rows)

-- the row begins a template whose family and name an earlier row has, or its field's name stands earlier in its template
unfoldable pub fails_duplicate_name : List Record → ℕ → Bool
fails_duplicate_name rows at =
    (begins rows at && list_any (λ earlier. same_cell 0 earlier (record_at rows at) && same_cell 2 earlier (record_at rows at)) (take at rows))
    || list_any (λ earlier. same_cell 3 earlier (record_at rows at)) (earlier_in rows at)

-- the field begins before the end of the one before it
unfoldable pub fails_overlap : List Record → ℕ → Bool
fails_overlap rows at = nat_lt (row_offset (record_at rows at)) (end_before rows at)

-- the field begins behind the end of the one before it
unfoldable pub fails_hole : List Record → ℕ → Bool
fails_hole rows at = nat_lt (end_before rows at) (row_offset (record_at rows at))

-- the row is the last of a template whose length is no multiple of 8, or over 1,024, or of a market data role over 128
unfoldable pub fails_length : List Record → ℕ → Bool
fails_length rows at =
    ends rows at && (
    not (row_end (record_at rows at) % 8 == 0)
    || nat_lt 1024 (row_end (record_at rows at))
    || (in_family Eobi (record_at rows at) && is_some (role_of (record_at rows at)) && nat_lt 128 (row_end (record_at rows at))))

-- rows that begin with these fields
unfoldable pub begin_with : Family → List FieldName → List Record → Bool
begin_with family [] rows = true
begin_with family (name ∷ names) [] = false
begin_with family (name ∷ names) (row ∷ rows) = is_field family name row && begin_with family names rows

-- the row is the last of a template that does not begin with its family's header
unfoldable pub fails_header : List Record → ℕ → Bool
fails_header rows at =
    ends rows at
    && not (if in_family Eti (record_at rows at)
    then begin_with Eti (BodyLen ∷ TemplateID ∷ []) (so_far rows at)
    else begin_with Eobi (BodyLen ∷ TemplateID ∷ MsgSeqNum ∷ []) (so_far rows at))

-- rows that have each field that a role requires
unfoldable pub has_fields : Role → List Record → Bool
has_fields role rows = list_all (λ name. list_any (is_field (family_of role) name) rows) (required role)

-- the row is the last of a role's template that lacks a required field
unfoldable pub fails_role_field : List Record → ℕ → Bool
fails_role_field rows at = ends rows at && option_map_or (λ role. not (has_fields role (so_far rows at))) (role_of (record_at rows at)) false

-- the first of the tests that fails, of tests in their order
abbrev pub first_failing : List (Bool × TableWhy) → Option TableWhy
first_failing [] = None
first_failing (test ∷ tests) = if test.0 then Some test.1 else first_failing tests

-- the first test that a row behind the heading fails
unfoldable pub row_fault : List Record → ℕ → Option TableWhy
row_fault rows at =
    let row = record_at rows at in
    first_failing (
    (fails_columns row, why.Columns)
    ∷ (fails_family row, why.Family)
    ∷ (fails_cell row, why.Cell)
    ∷ (fails_kind row, why.Kind)
    ∷ (fails_width row, why.Width)
    ∷ (fails_null row, why.Null)
    ∷ (fails_duplicate_id rows at, why.DuplicateId)
    ∷ (fails_duplicate_name rows at, why.DuplicateName)
    ∷ (fails_overlap rows at, why.Overlap)
    ∷ (fails_hole rows at, why.Hole)
    ∷ (fails_length rows at, why.Length)
    ∷ (fails_header rows at, why.Header)
    ∷ (fails_role_field rows at, why.RoleField)
    ∷ [])

-- the first test that the row at a place fails; the one at place 0 is to be the heading
unfoldable pub fault_at : List Record → ℕ → Option TableWhy
fault_at rows at =
    if at == 0 then (if is_heading (record_at rows 0) then None else Some why.Columns)
    else row_fault rows at

-- the first of two, where there is one
abbrev pub first_of : {X : Type 0} → Option X → Option X → Option X
first_of None later = later
first_of (Some found) later = Some found

-- the fault of the least of the places at, at + 1, .. that has one, of so many; the row of a place is one more
unfoldable pub least_fault : (ℕ → Option TableWhy) → ℕ → ℕ → Option TableFault
least_fault fault at zero = None
least_fault fault at (suc more) = first_of (option_map (λ why. record { row = at + 1; why = why }) (fault at)) (least_fault fault (at + 1) more)

-- each role has a row
unfoldable pub has_roles : List Record → Bool
has_roles rows = list_all (λ role. list_any (λ row. is_of row role) rows) all_roles

-- how many rows are looked at: the first even where it is not there
unfoldable pub looked_at : List Record → ℕ
looked_at rows = max 1 (length rows)

-- the fault of records that are not valid: its row, from 1, and why
unfoldable pub fault_of : List Record → Option TableFault
fault_of rows = first_of (least_fault (fault_at rows) 0 (looked_at rows)) (if has_roles rows then None else Some (record { row = length rows + 1; why = why.RoleMissing }))

-- records that no test refuses
abbrev pub IsValid : List Record → Type 0
IsValid rows = fault_of rows ≡ None
