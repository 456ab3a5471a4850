-- What an exchange on the network does at the events of its link.
use Rattle.std.specs.Prelude.{ℕ, ◌+◌, ◌%◌, ◌==◌, nat_le, nat_lt, Bool, true, false, ◌&&◌, if◌then◌else◌, List, [], ◌∷◌, length, map, unwrap_or}
use Rattle.t7_base.specs.declared.ids.Feed.{Feed}
use Rattle.t7_base.specs.declared.ids.Feed.TheVariants.{LiveA, LiveB, SnapA, SnapB}
use Rattle.t7_layout.specs.Layouts.{Layout}
use Rattle.t7_eobi.specs.declared.walks.Snap.{Snap}
use Rattle.t7_eti.specs.Saying.{response_bytes}
use Rattle.t7_book.specs.Acts.{Accepts, Beats, Snaps}
use Rattle.t7_packets.specs.Packing.{datagram_bytes, of_beat}
use Rattle.t7_entry.specs.ByNumber.{ByNumber, contains_key, get, insert, len, remove}
use Rattle.t7_entry.specs.Days.{Day, day_after, due, last_of}
use Rattle.t7_entry.specs.Events.{Event}
use Rattle.t7_entry.specs.Events as entry
use Rattle.t7_entry.specs.State.{Reply, closes, sends}
use Rattle.t7_feed.specs.Sending.{cycle_now, snap_datagram_bytes, under_way}
use Rattle.t7_acts.specs.Added.{added_by}
use Rattle.t7_exchange.specs.Sending.{terms_of}
use Rattle.t7_net.specs.declared.link.LinkItem.{LinkItem}
use Rattle.t7_net.specs.declared.link.LinkItem.TheVariants.{Bytes, Closed, Opened, Quiet}
use Rattle.t7_net.specs.Lines.{Casting}
use Rattle.t7_net.specs.Links.{Gave, LinkSent, Shut}
use Rattle.t7_serve.specs.Venues.{Turn, Venue, and_then, rests}

-- what a reply sends: its frame, or the close of its connection
abbrev pub sending : List Layout → Reply → LinkSent
sending layouts (sends conn response) = Gave conn (response_bytes layouts response)
sending layouts (closes conn) = Shut conn

-- each of these datagrams is cast on line A and then on line B
abbrev pub on_both : Feed → Feed → List (List ℕ) → List Casting
on_both a b [] = []
on_both a b (bytes ∷ others) = record { feed = a; bytes = bytes } ∷ record { feed = b; bytes = bytes } ∷ on_both a b others

-- the bytes of the live datagrams that are due
abbrev pub due_bytes : Day → List (List ℕ)
due_bytes day = map (datagram_bytes day.setting.layouts day.setting.listing.segment) (due day)

-- the counts of bytes, without the connections that these replies close
abbrev pub without_closed : ByNumber ℕ → List Reply → ByNumber ℕ
without_closed came [] = came
without_closed came (sends conn response ∷ replies) = without_closed came replies
without_closed came (closes conn ∷ replies) = without_closed (remove came conn) replies

-- the exchange once all that waits has gone out
abbrev pub handed : Venue → Venue
handed venue = record venue {
  day = record venue.day { waiting = []; untold = []; live = venue.day.live + length (due venue.day) };
  came = without_closed venue.came venue.day.waiting;
}

-- all that waits goes out: the replies in their order, and the live datagrams
abbrev pub hands_out : Venue → Turn
hands_out venue = record {
  venue = handed venue;
  acts = [];
  sent = map (sending venue.day.setting.layouts) venue.day.waiting;
  cast = on_both LiveA LiveB (due_bytes venue.day);
}

-- an event happens in order entry: it accepts commands, and what comes of it waits
abbrev pub enters : Event → Venue → Turn
enters event venue = record {
  venue = record venue { day = day_after venue.day event };
  acts = map Accepts (added_by venue.day.setting venue.day.state event);
  sent = [];
  cast = [];
}

-- a connection is open
abbrev pub is_open : Venue → ℕ → Bool
is_open venue conn = contains_key venue.day.state.inputs conn

-- how many bytes came on a connection since it was opened
abbrev pub came_on : Venue → ℕ → ℕ
came_on venue conn = unwrap_or (get venue.came conn) 0

-- a connection is opened; beyond 1,024 it is closed at once
abbrev pub opens : ℕ → Venue → Turn
opens conn venue =
    if is_open venue conn then rests venue else
    if nat_le 1024 (len venue.day.state.inputs) then record { venue = venue; acts = []; sent = Shut conn ∷ []; cast = [] } else
    enters (entry.Opened conn) (record venue { came = insert venue.came conn 0 })

-- bytes come on a connection, if it is open
abbrev pub hears : ℕ → List ℕ → ℕ → Venue → Turn
hears conn piece moment venue =
    if is_open venue conn then
    enters (entry.Bytes conn piece moment) (record venue { came = insert venue.came conn (came_on venue conn + length piece) })
    else rests venue

-- a peer has closed its connection
abbrev pub loses : ℕ → Venue → Turn
loses conn venue = enters (entry.Closed conn) (record venue { came = remove venue.came conn })

-- what an event of the link does in order entry
abbrev pub takes : LinkItem → ℕ → Venue → Turn
takes (Opened conn) moment venue = opens conn venue
takes (Bytes conn piece) moment venue = hears conn piece moment venue
takes (Closed conn) moment venue = loses conn venue
takes Quiet moment venue = rests venue

-- the bytes of a heartbeat, which names the last message
abbrev pub beat_bytes : Day → List ℕ
beat_bytes day = datagram_bytes day.setting.layouts day.setting.listing.segment (of_beat (day.live + 1) (last_of day))

-- a heartbeat is cast
abbrev pub beats : Venue → Turn
beats venue = record {
  venue = record venue { day = record venue.day { live = venue.day.live + 1; beats = venue.day.beats + 1 } };
  acts = Beats ∷ [];
  sent = [];
  cast = on_both LiveA LiveB (beat_bytes venue.day ∷ []);
}

-- the next snapshot datagrams: those that are left of the cycle under way, or a new one of the book beside the last message
abbrev pub next_snaps : Day → List (List Snap)
next_snaps day = under_way day.left (cycle_now (terms_of day) day.state.core.accepted)

-- the first of them is cast; there is always one
abbrev pub snaps_first : List (List Snap) → Venue → Turn
snaps_first [] venue = rests venue
snaps_first (items ∷ left) venue = record {
  venue = record venue { day = record venue.day { left = left; snaps = venue.day.snaps + 1 } };
  acts = Snaps ∷ [];
  sent = [];
  cast = on_both SnapA SnapB (snap_datagram_bytes (terms_of venue.day) (venue.day.snaps + 1) items ∷ []);
}

-- the next snapshot datagram is cast
abbrev pub snaps : Venue → Turn
snaps venue = snaps_first (next_snaps venue.day) venue

-- the time goes on: a tick, of which all that waits goes out, a heartbeat, and a snapshot datagram
abbrev pub ticks : ℕ → Venue → Turn
ticks moment venue = and_then (enters (entry.Tick moment) venue) (λ ticked. and_then (hands_out ticked) (λ told. and_then (beats told) snaps))

-- they follow each Quiet, and each event whose number is a multiple of 16
abbrev pub is_due : LinkItem → ℕ → Bool
is_due Quiet number = true
is_due item number = number % 16 == 0

-- what follows an event
abbrev pub follows : LinkItem → ℕ → Venue → Turn
follows item moment venue = if is_due item venue.events then ticks moment venue else rests venue

-- an event is taken at a moment: what it does in order entry, of which all that waits goes out, and what follows it
abbrev pub does : LinkItem → ℕ → Venue → Turn
does item moment venue = and_then (takes item moment (record venue { events = venue.events + 1 })) (λ taken. and_then (hands_out taken) (follows item moment))

-- an event brings an open connection above 64 MiB
abbrev pub is_too_long : LinkItem → Venue → Bool
is_too_long (Bytes conn piece) venue = is_open venue conn && nat_lt 67_108_864 (came_on venue conn + length piece)
is_too_long item venue = false
