-- The product file: which records are a product, and what is wrong with the others.
use Rattle.std.specs.Prelude.{ℕ, zero, suc, ◌+◌, ◌==◌, ◌&&◌, ◌||◌, not, nat_lt, nat_le, if◌then◌else◌, Bool, true, false, List, length, map, filter, drop, take, ℤ, pos, codes, Option, Some, None, option_map}
use Rattle.std.specs.List.{list_any}
use Rattle.std.specs.Ordering.{int_eq}
use Rattle.std.specs.Str.{bytes_eq}
use Rattle.t7_records.specs.Numbers.{is_decimal_to, number_to}
use Rattle.t7_records.specs.Records.{Record, cell, record_at}
use Rattle.t7_base.specs.declared.product.ProductWhy.{ProductWhy}
use Rattle.t7_base.specs.declared.product.ProductWhy.TheVariants as why
use Rattle.t7_base.specs.Listing.{Listing}

-- what is wrong with a product file: the row in fault, from 1, and the first test that it fails
pub record ProductFault : Type 0 where
  pub row : ℕ
  pub why : ProductWhy

-- the first cell of a record is this word
unfoldable pub is_of : List ℕ → Record → Bool
is_of word row = bytes_eq (cell row 0) word

-- a record of a security
unfoldable pub is_security : Record → Bool
is_security row = is_of (codes "security") row

-- a record of a session
unfoldable pub is_session : Record → Bool
is_session row = is_of (codes "session") row

-- the words of the first four records
unfoldable pub fixed_word : ℕ → List ℕ
fixed_word at =
    if at == 0 then codes "product" else if at == 1 then codes "window" else if at == 2 then codes "packets" else codes "datagram"

-- the numbers of a record behind its word, each from a least to a greatest: those of the first four records, of a
-- security (SecurityID, price step) and of a session (SessionID)
pub record Range : Type 0 where
  pub least : ℕ
  pub most : ℕ

-- the range of each of the first four records
unfoldable pub fixed_range : ℕ → Range
fixed_range at =
    if at == 0 then record { least = 1; most = 2_147_483_647 }
    else if at == 1 then record { least = 1; most = 65_536 }
    else if at == 2 then record { least = 1; most = 4_096 }
    else record { least = 256; most = 1_472 }

-- the range of a SecurityID
unfoldable pub security_range : Range
security_range = record { least = 1; most = 1_000_000_000_000_000_000 }

-- the range of a price step
unfoldable pub tick_range : Range
tick_range = record { least = 1; most = 100_000_000_000_000_000 }

-- the range of a SessionID
unfoldable pub session_range : Range
session_range = record { least = 1; most = 4_000_000_000 }

-- a cell is a plain decimal within a range
unfoldable pub is_within : Range → List ℕ → Bool
is_within range word = is_decimal_to range.most word && nat_le range.least (number_to range.most word)

-- the number of a cell within a range, and 0 for any other cell
unfoldable pub number_in : Range → List ℕ → ℕ
number_in range word = number_to range.most word

-- the records from the fifth on, as far as they stand before a place
unfoldable pub listed_before : List Record → ℕ → List Record
listed_before rows at = drop 4 (take at rows)

-- the security of a record
unfoldable pub security_of : Record → ℤ
security_of row = pos (number_in security_range (cell row 1))

-- the price step of a record
unfoldable pub tick_of : Record → ℤ
tick_of row = pos (number_in tick_range (cell row 2))

-- the session of a record
unfoldable pub session_of : Record → ℕ
session_of row = number_in session_range (cell row 1)

-- the securities of records, in order
unfoldable pub securities_in : List Record → List ℤ
securities_in rows = map security_of (filter is_security rows)

-- the price steps of records, in order
unfoldable pub ticks_in : List Record → List ℤ
ticks_in rows = map tick_of (filter is_security rows)

-- the sessions of records, in order
unfoldable pub sessions_in : List Record → List ℕ
sessions_in rows = map session_of (filter is_session rows)

-- The four tests of a record, in their order. Each is true where the record at a place (from 0) fails it.

-- The word may not stand there: the fixed words of records 1 to 4, `security` in record 5 and until the first session,
-- `session` from the second of these records on; there are at most 1,000 securities and 64 sessions.
unfoldable pub fails_key : List Record → ℕ → Bool
fails_key rows at =
    let row = record_at rows at in
    if nat_lt at 4 then not (is_of (fixed_word at) row)
    else if is_security row then nat_lt 0 (length (sessions_in (listed_before rows at))) || nat_le 1000 (length (securities_in (listed_before rows at)))
    else if is_session row then (length (securities_in (listed_before rows at)) == 0) || nat_le 64 (length (sessions_in (listed_before rows at)))
    else true

-- the record has another number of cells than its word wants
unfoldable pub fails_columns : List Record → ℕ → Bool
fails_columns rows at =
    let row = record_at rows at in
    not (length row == (if nat_lt at 4 then 2 else if is_security row then 3 else 2))

-- a number of the record isn't plain, or is out of its range
unfoldable pub fails_number : List Record → ℕ → Bool
fails_number rows at =
    let row = record_at rows at in
    if nat_lt at 4 then not (is_within (fixed_range at) (cell row 1))
    else if is_security row then not (is_within security_range (cell row 1) && is_within tick_range (cell row 2))
    else not (is_within session_range (cell row 1))

-- a security or a session that stands in an earlier record
unfoldable pub fails_duplicate : List Record → ℕ → Bool
fails_duplicate rows at =
    let row = record_at rows at in
    if nat_lt at 4 then false
    else if is_security row then list_any (λ z. int_eq z (security_of row)) (securities_in (listed_before rows at))
    else list_any (λ n. n == session_of row) (sessions_in (listed_before rows at))

-- the first test that the record at a place fails
unfoldable pub fault_at : List Record → ℕ → Option ProductWhy
fault_at rows at =
    if fails_key rows at then Some why.Key
    else if fails_columns rows at then Some why.Columns
    else if fails_number rows at then Some why.Number
    else if fails_duplicate rows at then Some why.Duplicate
    else None

-- the first of two, where there is one
abbrev pub first_of : {X : Type 0} → Option X → Option X → Option X
first_of None later = later
first_of (Some found) later = Some found

-- the fault of the least of the places at, at + 1, .. that has one, of so many; the row of a place is one more
unfoldable pub least_fault : (ℕ → Option ProductWhy) → ℕ → ℕ → Option ProductFault
least_fault fault at zero = None
least_fault fault at (suc more) = first_of (option_map (λ why. record { row = at + 1; why = why }) (fault at)) (least_fault fault (at + 1) more)

-- The fault of records that are no product: that of the least row with a failing test, or that the file ends before its
-- first session, which is the fault of the row behind the last.
unfoldable pub fault_of : List Record → Option ProductFault
fault_of rows = first_of (least_fault (fault_at rows) 0 (length rows))
    (if length (sessions_in (drop 4 rows)) == 0 then Some (record { row = length rows + 1; why = why.Missing }) else None)

-- the product that records are
unfoldable pub product_of : List Record → Listing
product_of rows = record {
  segment = number_in (fixed_range 0) (cell (record_at rows 0) 1);
  window = number_in (fixed_range 1) (cell (record_at rows 1) 1);
  packets = number_in (fixed_range 2) (cell (record_at rows 2) 1);
  datagram = number_in (fixed_range 3) (cell (record_at rows 3) 1);
  securities = securities_in (drop 4 rows);
  ticks = ticks_in (drop 4 rows);
  sessions = sessions_in (drop 4 rows);
}
