-- What the rows of a layout table say. The heading is at place 0, so row r of the file is at place r - 1.
use Rattle.std.specs.Prelude.{ℕ, zero, suc, ◌+◌, ◌-◌, ◌/◌, ◌==◌, ◌&&◌, ◌||◌, not, nat_le, nat_lt, if◌then◌else◌, List, [], ◌∷◌, ◌++◌, Bool, Option, Some, None, length, codes, find, drop, slice_index, pos, neg_ℤ, ℤ}
use Rattle.std.specs.List.{list_all}
use Rattle.std.specs.Char.{is_ascii_alphanumeric}
use Rattle.std.specs.Str.{bytes_eq}
use Rattle.t7_records.specs.Numbers.{is_decimal_to, number_to, value_of}
use Rattle.t7_records.specs.Records.{Record, cell, record_at}
use Rattle.t7_layout.specs.declared.words.Family.{Family}
use Rattle.t7_layout.specs.declared.words.Family.TheVariants.{Eti, Eobi}
use Rattle.t7_layout.specs.declared.words.Kind.{Kind}
use Rattle.t7_layout.specs.declared.words.Kind.TheVariants.{Unsigned, Signed, Raw}
use Rattle.t7_layout.specs.declared.roles.Role.{Role}
use Rattle.t7_layout.specs.declared.roles.FieldName.{FieldName}
use Rattle.t7_layout.specs.Roles.{all_roles, family_of, field_text, kind_of, role_text, width_in}

-- the heading names the cells of every other row
unfoldable pub is_heading : Record → Bool
is_heading row =
    (length row == 8)
    && bytes_eq (cell row 0) (codes "family") && bytes_eq (cell row 1) (codes "id")
    && bytes_eq (cell row 2) (codes "template") && bytes_eq (cell row 3) (codes "field")
    && bytes_eq (cell row 4) (codes "offset") && bytes_eq (cell row 5) (codes "width")
    && bytes_eq (cell row 6) (codes "kind") && bytes_eq (cell row 7) (codes "null")

-- the word for a family
unfoldable pub family_text : Family → List ℕ
family_text Eti = codes "ETI"
family_text Eobi = codes "EOBI"

-- the word for a kind
unfoldable pub kind_text : Kind → List ℕ
kind_text Unsigned = codes "U"
kind_text Signed = codes "I"
kind_text Raw = codes "X"

-- whether a row is of a family
unfoldable pub in_family : Family → Record → Bool
in_family family row = bytes_eq (cell row 0) (family_text family)

-- whether a row's field is of a kind
unfoldable pub has_kind : Kind → Record → Bool
has_kind kind row = bytes_eq (cell row 6) (kind_text kind)

-- the family that the cell names; market data where it names none
unfoldable pub row_family : Record → Family
row_family row = if in_family Eti row then Eti else Eobi

-- the kind that the cell names; bytes as they are where it names none
unfoldable pub row_kind : Record → Kind
row_kind row = if has_kind Unsigned row then Unsigned else if has_kind Signed row then Signed else Raw

-- whether two families are one
unfoldable pub same_family : Family → Family → Bool
same_family a b = bytes_eq (family_text a) (family_text b)

-- whether two kinds are one
unfoldable pub same_kind : Kind → Kind → Bool
same_kind a b = bytes_eq (kind_text a) (kind_text b)

-- the id; 0 where its cell is not a number as it should be
unfoldable pub row_id : Record → ℕ
row_id row = number_to 65535 (cell row 1)

-- the place of the field's first byte; 0 where its cell is not a number as it should be
unfoldable pub row_offset : Record → ℕ
row_offset row = number_to 1023 (cell row 4)

-- how many bytes the field has; 0 where its cell is not a number as it should be
unfoldable pub row_width : Record → ℕ
row_width row = number_to 1024 (cell row 5)

-- the place after the field's last byte
unfoldable pub row_end : Record → ℕ
row_end row = row_offset row + row_width row

-- a letter, a digit or an underscore
abbrev pub is_name_byte : ℕ → Bool
is_name_byte b = is_ascii_alphanumeric b || (b == 95)

-- 1 to 40 letters, digits or underscores
unfoldable pub is_name : List ℕ → Bool
is_name word = nat_lt 0 (length word) && nat_le (length word) 40 && list_all is_name_byte word

-- the greatest number of 1, 2, 4 or 8 bytes; the greatest signed one is half of it, and the least is one further below 0
unfoldable pub greatest : ℕ → ℕ
greatest width = if width == 1 then 255 else if width == 2 then 65535 else if width == 4 then 4294967295 else 18446744073709551615

-- the number that a null cell spells, in the range of the width
unfoldable pub unsigned_null : ℕ → List ℕ → Option ℤ
unsigned_null width word = if is_decimal_to (greatest width) word then Some (pos (value_of word)) else None

-- the number that a null cell spells for a signed field; a minus stands before a number above 0 alone
unfoldable pub signed_null : ℕ → List ℕ → Option ℤ
signed_null width word =
    if slice_index word 0 == 45
    then if is_decimal_to (greatest width / 2 + 1) (drop 1 word) && nat_lt 0 (value_of (drop 1 word)) then Some (neg_ℤ (pos (value_of (drop 1 word)))) else None
    else if is_decimal_to (greatest width / 2) word then Some (pos (value_of word)) else None

-- the null of a row's field, where its cell spells one
unfoldable pub row_null : Record → Option ℤ
row_null row =
    if has_kind Unsigned row then unsigned_null (row_width row) (cell row 7)
    else if has_kind Signed row then signed_null (row_width row) (cell row 7)
    else None

-- whether two rows have the same cell at a place
unfoldable pub same_cell : ℕ → Record → Record → Bool
same_cell at a b = bytes_eq (cell a at) (cell b at)

-- whether the second of two rows goes on with the template of the first: it has the same first, second and third cell
unfoldable pub same_template : Record → Record → Bool
same_template a b = nat_le 3 (length b) && same_cell 0 a b && same_cell 1 a b && same_cell 2 a b

-- the row at this place begins a template: it follows the heading, or the row before it is of another
unfoldable pub begins : List Record → ℕ → Bool
begins rows at = (at == 1) || not (same_template (record_at rows (at - 1)) (record_at rows at))

-- the row at this place is its template's last: there is none after it, or it is of another
unfoldable pub ends : List Record → ℕ → Bool
ends rows at = nat_le (length rows) (at + 1) || not (same_template (record_at rows at) (record_at rows (at + 1)))

-- the rows of the template of the row at this place, up to that row
unfoldable pub so_far : List Record → ℕ → List Record
so_far rows zero = []
so_far rows (suc at) = (if begins rows (suc at) then [] else so_far rows at) ++ (record_at rows (suc at) ∷ [])

-- those before that row
unfoldable pub earlier_in : List Record → ℕ → List Record
earlier_in rows at = if begins rows at then [] else so_far rows (at - 1)

-- where the field before it in the template ends
unfoldable pub end_before : List Record → ℕ → ℕ
end_before rows at = if begins rows at then 0 else row_end (record_at rows (at - 1))

-- the row is of a role: of its family and of its name
unfoldable pub is_of : Record → Role → Bool
is_of row role = same_family (row_family row) (family_of role) && bytes_eq (cell row 2) (role_text role)

-- the role that a row is of
unfoldable pub role_of : Record → Option Role
role_of row = find (is_of row) all_roles

-- a row of this field, with the kind and the width that it has in a family
unfoldable pub is_field : Family → FieldName → Record → Bool
is_field family name row = bytes_eq (cell row 3) (field_text name) && same_kind (row_kind row) (kind_of name) && (row_width row == width_in family name)
