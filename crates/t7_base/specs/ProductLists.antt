-- What has been read of a product file's lists before a record.
use Rattle.std.specs.Prelude.{◌≡◌, ℕ, ◌<◌, ◌≤◌, ℤ, pos, ◌≤ℤ◌, List, length, Contains, nat_eq}
use Rattle.std.specs.Ordering.{int_eq}
use Rattle.std.specs.List.{IsDistinct}
use Rattle.t7_records.specs.Records.{Record}
use Rattle.t7_base.specs.ProductFile.{listed_before, securities_in, sessions_in, ticks_in}

-- the securities, their price steps and the sessions that were read so far
pub record ProductRows : Type 0 where
  pub securities : List ℤ
  pub ticks : List ℤ
  pub sessions : List ℕ

-- the lists of the records before a place
unfoldable pub lists_before : List Record → ℕ → ProductRows
lists_before rows at = record {
  securities = securities_in (listed_before rows at);
  ticks = ticks_in (listed_before rows at);
  sessions = sessions_in (listed_before rows at);
}

-- the limits of the lists, however far they have been read
pub record AreProductRows (l : ProductRows) : Type 0 where
  pub securities : length l.securities ≤ 1_000
  pub security : (z : ℤ) → Contains l.securities z → (pos 1 ≤ℤ z) × (z ≤ℤ pos 1_000_000_000_000_000_000)
  pub each_once : IsDistinct int_eq l.securities
  pub ticks : length l.ticks ≡ length l.securities
  pub tick : (z : ℤ) → Contains l.ticks z → (pos 1 ≤ℤ z) × (z ≤ℤ pos 100_000_000_000_000_000)
  pub sessions : length l.sessions ≤ 64
  pub session : (n : ℕ) → Contains l.sessions n → (1 ≤ n) × (n ≤ 4_000_000_000)
  pub each_session_once : IsDistinct nat_eq l.sessions
  pub begun : 0 < length l.sessions → 0 < length l.securities
