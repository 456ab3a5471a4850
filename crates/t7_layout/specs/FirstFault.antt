-- Which fault a table is refused for, and which tables have none.
use Rattle.std.specs.Prelude.{ℕ, zero, suc, ◌+◌, ◌-◌, ◌<◌, ◌≤◌, ◌≡◌, ◌⊎◌, not, List, [], ◌∷◌, Bool, true, false, Some, length, slice_get}
use Rattle.std.specs.List.{list_any}
use Rattle.t7_records.specs.Records.{Record, record_at}
use Rattle.t7_layout.specs.declared.words.TableFault.{TableFault}
use Rattle.t7_layout.specs.declared.words.TableWhy.{TableWhy}
use Rattle.t7_layout.specs.declared.words.TableWhy.TheVariants.{Columns, Family, Cell, Kind, Width, Null, DuplicateId, DuplicateName, Overlap, Hole, Length, Header, RoleField, RoleMissing}
use Rattle.t7_layout.specs.declared.roles.Role.{Role}
use Rattle.t7_layout.specs.Faults.{fails_cell, fails_columns, fails_duplicate_id, fails_duplicate_name, fails_family, fails_header, fails_hole, fails_kind, fails_length, fails_null, fails_overlap, fails_role_field, fails_width, looked_at}
use Rattle.t7_layout.specs.Rows.{is_heading, is_of}

-- the tests of a row, in their order
abbrev pub tests : List TableWhy
tests = Columns ∷ Family ∷ Cell ∷ Kind ∷ Width ∷ Null ∷ DuplicateId ∷ DuplicateName ∷ Overlap ∷ Hole ∷ Length ∷ Header ∷ RoleField ∷ []

-- the row at a place fails a test; the row at place 0 is the heading, which has no test but the first
unfoldable pub fails : TableWhy → List Record → ℕ → Bool
fails Columns rows zero = not (is_heading (record_at rows 0))
fails _ rows zero = false
fails Columns rows (suc at) = fails_columns (record_at rows (suc at))
fails Family rows (suc at) = fails_family (record_at rows (suc at))
fails Cell rows (suc at) = fails_cell (record_at rows (suc at))
fails Kind rows (suc at) = fails_kind (record_at rows (suc at))
fails Width rows (suc at) = fails_width (record_at rows (suc at))
fails Null rows (suc at) = fails_null (record_at rows (suc at))
fails DuplicateId rows (suc at) = fails_duplicate_id rows (suc at)
fails DuplicateName rows (suc at) = fails_duplicate_name rows (suc at)
fails Overlap rows (suc at) = fails_overlap rows (suc at)
fails Hole rows (suc at) = fails_hole rows (suc at)
fails Length rows (suc at) = fails_length rows (suc at)
fails Header rows (suc at) = fails_header rows (suc at)
fails RoleField rows (suc at) = fails_role_field rows (suc at)
fails RoleMissing rows (suc at) = false

-- the row at a place passes every test
abbrev pub PassesAll : List Record → ℕ → Type 0
PassesAll rows at = (why : TableWhy) → fails why rows at ≡ false

-- a fault of a row: each row before it passes every test, and this one each test before the one that it fails
pub record IsRowFault (rows : List Record) (fault : TableFault) : Type 0 where
  pub some : 1 ≤ fault.row
  pub inside : fault.row ≤ looked_at rows
  pub place : ℕ
  pub test : slice_get tests place ≡ Some fault.why
  pub failed : fails fault.why rows (fault.row - 1) ≡ true
  pub first : (earlier : ℕ) (why : TableWhy) → earlier < place → slice_get tests earlier ≡ Some why → fails why rows (fault.row - 1) ≡ false
  pub least : (at : ℕ) → at + 1 < fault.row → PassesAll rows at

-- the fault of rows that all pass, of which none is of some role; its row is the one behind the last
pub record IsMissingRole (rows : List Record) (fault : TableFault) : Type 0 where
  pub row : fault.row ≡ length rows + 1
  pub why : fault.why ≡ RoleMissing
  pub passed : (at : ℕ) → at < looked_at rows → PassesAll rows at
  pub role : Role
  pub absent : list_any (λ row. is_of row role) rows ≡ false

-- the first fault of rows
abbrev pub IsFirstFault : List Record → TableFault → Type 0
IsFirstFault rows fault = IsRowFault rows fault ⊎ IsMissingRole rows fault

-- rows that all pass, with one of each role
pub record AreSound (rows : List Record) : Type 0 where
  pub passed : (at : ℕ) → at < looked_at rows → PassesAll rows at
  pub roles : (role : Role) → list_any (λ row. is_of row role) rows ≡ true
