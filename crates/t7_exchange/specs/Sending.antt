-- Datagrams that are handed out.
use Rattle.std.specs.Prelude.{◌≡◌, ℕ, ◌+◌, List, ◌∷◌, ◌++◌, length, drop}
use Rattle.t7_packets.specs.Packing.{Datagram}
use Rattle.t7_entry.specs.Days.{Day, Ships}
use Rattle.t7_eobi.specs.declared.walks.Snap.{Snap}
use Rattle.t7_feed.specs.Arrivals.{Terms}
use Rattle.t7_feed.specs.Sending.{cycle_now, snap_datagram_bytes, under_way}
use Rattle.t7_exchange.specs.declared.sent.Sent.{Sent}
use Rattle.t7_exchange.specs.Outbox.{IsPut}

-- the first datagram that is due is sent and handed out
pub record IsSent (old new : Day) (old_out new_out : List ℕ) (sent : Sent) : Type 0 where
  pub datagram : Datagram
  pub ships : Ships old new datagram
  pub put : IsPut old.setting.layouts old.setting.listing.segment datagram old_out new_out sent

-- the table and the product of a day
abbrev pub terms_of : Day → Terms
terms_of day = record { layouts = day.setting.layouts; listing = day.setting.listing }

-- The next snapshot datagram of the cycle under way, or the first of a new one, is sent and handed out. A new cycle tells the book beside the last message.
pub record IsSnapped (old new : Day) (old_out new_out : List ℕ) (sent : Sent) : Type 0 where
  pub items : List Snap
  pub next : under_way old.left (cycle_now (terms_of old) old.state.core.accepted) ≡ items ∷ new.left
  pub number : sent.number ≡ old.snaps + 1
  pub count : sent.len ≡ length (snap_datagram_bytes (terms_of old) sent.number items)
  pub bytes : new_out ≡ snap_datagram_bytes (terms_of old) sent.number items ++ drop sent.len old_out
  pub others : new ≡ record old { left = new.left; snaps = old.snaps + 1 }
