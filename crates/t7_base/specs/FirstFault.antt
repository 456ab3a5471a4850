-- Which fault a product file is refused for, and which files have none.
use Rattle.std.specs.Prelude.{ℕ, ◌+◌, ◌-◌, ◌<◌, ◌≤◌, ◌≡◌, ◌≢◌, ◌⊎◌, List, [], ◌∷◌, Bool, true, false, Some, length, drop, slice_get}
use Rattle.t7_records.specs.Records.{Record}
use Rattle.t7_base.specs.declared.product.ProductWhy.{ProductWhy}
use Rattle.t7_base.specs.declared.product.ProductWhy.TheVariants.{Key, Columns, Number, Duplicate, Missing}
use Rattle.t7_base.specs.ProductFile.{ProductFault, fails_columns, fails_duplicate, fails_key, fails_number, sessions_in}

-- the tests of a record, in their order
abbrev pub tests : List ProductWhy
tests = Key ∷ Columns ∷ Number ∷ Duplicate ∷ []

-- the record at a place, from 0, fails a test
unfoldable pub fails : ProductWhy → List Record → ℕ → Bool
fails Key rows at = fails_key rows at
fails Columns rows at = fails_columns rows at
fails Number rows at = fails_number rows at
fails Duplicate rows at = fails_duplicate rows at
fails Missing rows at = false

-- the record at a place passes every test
abbrev pub PassesAll : List Record → ℕ → Type 0
PassesAll rows at = (why : ProductWhy) → fails why rows at ≡ false

-- a fault of a record: each one before it passes every test, and it passes each test before the one that it fails
pub record IsRecordFault (rows : List Record) (fault : ProductFault) : Type 0 where
  pub some : 1 ≤ fault.row
  pub inside : fault.row ≤ length rows
  pub place : ℕ
  pub test : slice_get tests place ≡ Some fault.why
  pub failed : fails fault.why rows (fault.row - 1) ≡ true
  pub first : (earlier : ℕ) (why : ProductWhy) → earlier < place → slice_get tests earlier ≡ Some why → fails why rows (fault.row - 1) ≡ false
  pub least : (at : ℕ) → at + 1 < fault.row → PassesAll rows at

-- the fault of records that all pass, and end before the first session; its row is the one behind the last
pub record IsMissingSession (rows : List Record) (fault : ProductFault) : Type 0 where
  pub row : fault.row ≡ length rows + 1
  pub why : fault.why ≡ Missing
  pub passed : (at : ℕ) → at < length rows → PassesAll rows at
  pub none : length (sessions_in (drop 4 rows)) ≡ 0

-- the first fault of records
abbrev pub IsFirstFault : List Record → ProductFault → Type 0
IsFirstFault rows fault = IsRecordFault rows fault ⊎ IsMissingSession rows fault

-- records that all pass, with a session
pub record AreSound (rows : List Record) : Type 0 where
  pub passed : (at : ℕ) → at < length rows → PassesAll rows at
  pub session : length (sessions_in (drop 4 rows)) ≢ 0
