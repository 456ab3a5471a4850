-- An exchange on the network between two events, and what it does: its commands, what it sends on connections, and what it casts.
use Rattle.std.specs.Prelude.{ℕ, List, [], ◌++◌}
use Rattle.t7_book.specs.Acts.{Act}
use Rattle.t7_acts.specs.InStep.{setting_of}
use Rattle.t7_entry.specs.ByNumber.{ByNumber, empty}
use Rattle.t7_entry.specs.Days.{Day, new_day}
use Rattle.t7_feed.specs.Arrivals.{Terms}
use Rattle.t7_net.specs.Lines.{Casting}
use Rattle.t7_net.specs.Links.{LinkSent}

-- an exchange on the network
pub record Venue : Type 0 where
  -- order entry, and the counts of datagrams
  pub day : Day
  -- how many bytes came on each open connection since it was opened
  pub came : ByNumber ℕ
  -- how many events were taken
  pub events : ℕ

-- before the first event
abbrev pub new_venue : Terms → Venue
new_venue terms = record { day = new_day (setting_of terms); came = empty; events = 0 }

-- something that it does
pub record Turn : Type 0 where
  -- the exchange after it
  pub venue : Venue
  -- the commands that it accepts, and its heartbeats and snapshot datagrams
  pub acts : List Act
  -- the bytes and the closes that it sends on connections
  pub sent : List LinkSent
  -- the datagrams that it casts
  pub cast : List Casting

-- it does nothing
abbrev pub rests : Venue → Turn
rests venue = record { venue = venue; acts = []; sent = []; cast = [] }

-- one thing after another
abbrev pub and_then : Turn → (Venue → Turn) → Turn
and_then first next = let rest = next first.venue in record {
  venue = rest.venue;
  acts = first.acts ++ rest.acts;
  sent = first.sent ++ rest.sent;
  cast = first.cast ++ rest.cast;
}
