-- What the calls of a server do, each whole or up to a fault.
use Rattle.std.specs.Prelude.{◌≡◌, ℕ, ◌+◌, ◌≤◌, ◌⊎◌, Bool, true, false, List, [], ◌∷◌, Option, Result, Ok, Err, length, map, take}
use Rattle.t7_base.specs.Outside.{Begins, Grew}
use Rattle.t7_base.specs.declared.ids.Feed.TheVariants.{LiveA, LiveB}
use Rattle.t7_base.specs.Listing.{Listing}
use Rattle.t7_layout.specs.Layouts.{Layout}
use Rattle.t7_entry.specs.State.{Reply}
use Rattle.t7_feed.specs.Arrivals.{Terms}
use Rattle.t7_net.specs.declared.link.LinkEvent.{LinkEvent}
use Rattle.t7_net.specs.declared.link.LinkEvent.TheVariants as event
use Rattle.t7_net.specs.declared.link.LinkItem.{LinkItem}
use Rattle.t7_net.specs.declared.link.LinkItem.TheVariants as item
use Rattle.t7_net.specs.Lines.{Casting}
use Rattle.t7_net.specs.Links.{LinkSent}
use Rattle.t7_outcome.specs.declared.ending.Stop.{Stop}
use Rattle.t7_outcome.specs.declared.ending.Stop.TheVariants.{Memory, NetFault, TooLong}
use Rattle.t7_outcome.specs.Ending.{Ended}
use Rattle.t7_outcome.specs.Outcome.{Ends}
use Rattle.t7_serve.specs.Clauses.{CastAt, SentAt}
use Rattle.t7_serve.specs.Fronts.{SentFront}
use Rattle.t7_serve.specs.Served.{Taking, done_by, ends_too_long, served}
use Rattle.t7_serve.specs.Turns.{does, due_bytes, is_too_long, on_both, sending, without_closed}
use Rattle.t7_serve.specs.Venues.{Turn, Venue}

-- a turn was done: the server stands where it leads, and all that it sends and casts has gone out
pub record Done (turn : Turn) (new : Venue) (sent_before sent_now : Option (List LinkSent)) (cast_before cast_now : Option (List Casting)) : Type 0 where
  pub venue : new ≡ turn.venue
  pub sent : Grew sent_before sent_now (λ added. added ≡ turn.sent)
  pub cast : Grew cast_before cast_now (λ added. added ≡ turn.cast)

-- a turn was broken off: the front of what it sends and casts has gone out
pub record Broke (turn : Turn) (sent_before sent_now : Option (List LinkSent)) (cast_before cast_now : Option (List Casting)) : Type 0 where
  pub sent : Grew sent_before sent_now (SentFront turn.sent)
  pub cast : Grew cast_before cast_now (λ added. Begins added turn.cast)

-- what the replies that wait send
abbrev pub waiting_sent : Venue → List LinkSent
waiting_sent venue = map (sending venue.day.setting.layouts) venue.day.waiting

-- the first reply that waits was sent
pub record SendsReply (old new : Venue) (sent_before sent_now : Option (List LinkSent)) : Type 0 where
  pub reply : Reply
  pub first : old.day.waiting ≡ reply ∷ new.day.waiting
  pub venue : new ≡ record old { day = record old.day { waiting = new.day.waiting }; came = without_closed old.came (reply ∷ []) }
  pub sent : Grew sent_before sent_now (λ added. added ≡ sending old.day.setting.layouts reply ∷ [])

-- so it is where there is one, and else nothing changes
abbrev pub SendsNext : Venue → Venue → Option (List LinkSent) → Option (List LinkSent) → Bool → Type 0
SendsNext old new sent_before sent_now true = SendsReply old new sent_before sent_now
SendsNext old new sent_before sent_now false = (old.day.waiting ≡ []) × (new ≡ old) × (sent_now ≡ sent_before)

-- the first live datagram that is due was cast
pub record CastsDatagram (old new : Venue) (cast_before cast_now : Option (List Casting)) : Type 0 where
  pub bytes : List ℕ
  pub first : due_bytes old.day ≡ bytes ∷ due_bytes new.day
  pub venue : new ≡ record old { day = record old.day { untold = new.day.untold; live = new.day.live } }
  pub live : new.day.live ≡ old.day.live + 1
  pub cast : Grew cast_before cast_now (λ added. added ≡ on_both LiveA LiveB (bytes ∷ []))

-- so it is where there is one, and else nothing changes
abbrev pub CastsNext : Venue → Venue → Option (List Casting) → Option (List Casting) → Bool → Type 0
CastsNext old new cast_before cast_now true = CastsDatagram old new cast_before cast_now
CastsNext old new cast_before cast_now false = (old.day.untold ≡ []) × (new ≡ old) × (cast_now ≡ cast_before)

-- the event that was taken, where the call for it didn't fail
abbrev pub item_of : LinkEvent → List ℕ → LinkItem
item_of (event.Opened conn) into = item.Opened conn
item_of (event.Bytes conn count) into = item.Bytes conn (take count into)
item_of (event.Closed conn) into = item.Closed conn
item_of event.Quiet into = item.Quiet
item_of event.Failed into = item.Quiet

-- nothing waits to go out, and there were no more heartbeats and snapshot datagrams than events
pub record IsReady (venue : Venue) : Type 0 where
  pub told : venue.day.untold ≡ []
  pub beats : venue.day.beats ≤ venue.events
  pub snaps : venue.day.snaps ≤ venue.events

-- one event was taken at one moment, and what it does was broken off
pub record BrokeOff (old : Venue) (sent_before sent_now : Option (List LinkSent)) (cast_before cast_now : Option (List Casting)) (items : List LinkItem)
    (moments : List ℕ) : Type 0 where
  pub item : LinkItem
  pub moment : ℕ
  pub taken : items ≡ item ∷ []
  pub given : moments ≡ moment ∷ []
  pub short : is_too_long item old ≡ false
  pub broke : Broke (does item moment old) sent_before sent_now cast_before cast_now

-- one event was taken at one moment, which brought its connection above 64 MiB, and nothing was done
pub record WasTooLong (old : Venue) (sent_before sent_now : Option (List LinkSent)) (cast_before cast_now : Option (List Casting)) (items : List LinkItem)
    (moments : List ℕ) : Type 0 where
  pub item : LinkItem
  pub moment : ℕ
  pub taken : items ≡ item ∷ []
  pub given : moments ≡ moment ∷ []
  pub long : is_too_long item old ≡ true
  pub sent : sent_now ≡ sent_before
  pub cast : cast_now ≡ cast_before

-- one event was taken at one moment, and what it does was done
pub record WasDone (old new : Venue) (sent_before sent_now : Option (List LinkSent)) (cast_before cast_now : Option (List Casting)) (items : List LinkItem)
    (moments : List ℕ) : Type 0 where
  pub item : LinkItem
  pub moment : ℕ
  pub taken : items ≡ item ∷ []
  pub given : moments ≡ moment ∷ []
  pub short : is_too_long item old ≡ false
  pub done : Done (does item moment old) new sent_before sent_now cast_before cast_now

-- none was taken
pub record WasNone (sent_before sent_now : Option (List LinkSent)) (cast_before cast_now : Option (List Casting)) (items : List LinkItem) (moments : List ℕ) :
    Type 0 where
  pub taken : items ≡ []
  pub given : moments ≡ []
  pub sent : sent_now ≡ sent_before
  pub cast : cast_now ≡ cast_before

-- One event was taken at one moment, and what it does was done, or broken off, or it was too long; or none was taken.
abbrev pub Stepped : {T : Type 0} → Venue → Venue → Option (List LinkSent) → Option (List LinkSent) → Option (List Casting) → Option (List Casting)
    → Result T Stop
    → List LinkItem → List ℕ → Type 0
Stepped old new sent_before sent_now cast_before cast_now (Ok done) items moments = WasDone old new sent_before sent_now cast_before cast_now items moments
Stepped old new sent_before sent_now cast_before cast_now (Err NetFault) items moments =
    WasNone sent_before sent_now cast_before cast_now items moments ⊎ BrokeOff old sent_before sent_now cast_before cast_now items moments
Stepped old new sent_before sent_now cast_before cast_now (Err Memory) items moments = BrokeOff old sent_before sent_now cast_before cast_now items moments
Stepped old new sent_before sent_now cast_before cast_now (Err TooLong) items moments = WasTooLong old sent_before sent_now cast_before cast_now items moments
Stepped old new sent_before sent_now cast_before cast_now (Err stop) items moments = ⊥

-- What these events with their moments came to, of which so many were asked for.
abbrev pub Serves : {T : Type 0} → Terms → ℕ → Venue → Option (List LinkSent) → Option (List LinkSent) → Option (List Casting) → Option (List Casting)
    → Result T Stop
    → List Taking → Type 0
Serves terms count now sent_before sent_now cast_before cast_now (Ok done) takings =
    (length takings ≡ count) × (ends_too_long terms takings ≡ false) × Done (done_by terms takings) now sent_before sent_now cast_before cast_now
Serves terms count now sent_before sent_now cast_before cast_now (Err NetFault) takings = (length takings ≤ count)
    × Broke (done_by terms takings) sent_before sent_now cast_before cast_now
Serves terms count now sent_before sent_now cast_before cast_now (Err Memory) takings = (length takings ≤ count)
    × Broke (done_by terms takings) sent_before sent_now cast_before cast_now
Serves terms count now sent_before sent_now cast_before cast_now (Err TooLong) takings =
    (length takings ≤ count) × (ends_too_long terms takings ≡ true)
    × Done (done_by terms takings) (done_by terms takings).venue sent_before sent_now cast_before cast_now
Serves terms count now sent_before sent_now cast_before cast_now (Err stop) takings = ⊥

-- what a run of events came to
pub record Came (terms : Terms) (count : ℕ) (end : Ended) (s s1 : Option (List LinkSent)) (c c1 : Option (List Casting)) (ts : List Taking) : Type 0 where
  pub ends : Ends (served {Moment = Unit {0}} terms count ts) end
  pub sent : Grew s s1 (SentAt (done_by terms ts).sent end)
  pub cast : Grew c c1 (CastAt (done_by terms ts).cast end)

-- the table and the product of an exchange
abbrev pub terms_by : List Layout → Listing → Terms
terms_by layouts listing = record { layouts = layouts; listing = listing }
