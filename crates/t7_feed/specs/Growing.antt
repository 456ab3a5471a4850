-- What stays as more is delivered: windows only close, and all else only grows.
use Rattle.std.specs.Prelude.{◌≡◌, ℕ, ◌≤◌, List, Option, Some}
use Rattle.t7_base.specs.Listing.{Listing}
use Rattle.t7_base.specs.declared.public.Public.{Public}
use Rattle.t7_eobi.specs.declared.walks.Snap.{Snap}
use Rattle.t7_feed.specs.Arrivals.{Arrival, Came, CameAs, PacketWindow, Window, first, highest, highest_packet, known}
use Rattle.t7_feed.specs.Cycles.{Section}
use Rattle.t7_feed.specs.Reached.{Reaches}
use Rattle.t7_feed.specs.Report.{IsFrom}
use Rattle.t7_feed.specs.Whole.{Supported, Whole}

-- What came once more came: a message that came has come, and was the same; the greatest numbers don't fall; the first datagram of a number stays the first; what was out of its window stays
-- out; a whole cycle stays whole, and what was supported stays so; what is reached doesn't fall, and isn't lost.
pub record Grows (listing : Listing) (before later : List Arrival) : Type 0 where
  pub came : (k : ℕ) → Came before k → Came later k
  pub same : (k : ℕ) (said : Public) → CameAs before k said → CameAs later k said
  pub highest : highest before ≤ highest later
  pub highest_packet : highest_packet before ≤ highest_packet later
  pub known : known before ≤ known later
  pub first : (i : ℕ) (snaps : List Snap) → first before i ≡ Some snaps → first later i ≡ Some snaps
  pub window : (k : ℕ) → Window listing later k → Window listing before k
  pub packet_window : (p : ℕ) → PacketWindow listing later p → PacketWindow listing before p
  pub whole : (m p q : ℕ) (parts : List Section) → Whole listing before m p q parts → Whole listing later m p q parts
  pub supported : (n : ℕ) → Supported listing before n → Supported listing later n
  pub reached : (n : ℕ) (after : Option ℕ) → Reaches listing before (Some n) → Reaches listing later after → IsFrom n after
