-- What was delivered to a member of the feed, and what of it counts. In each list here the newest stands first.
use Rattle.std.specs.Prelude.{◌≡◌, ℕ, ◌+◌, ◌<◌, max, ◌⊎◌, List, [], ◌∷◌, Option, Some, None, eqb, if◌then◌else◌}
use Rattle.t7_base.specs.Listing.{Listing, IsListing}
use Rattle.t7_base.specs.declared.ids.Feed.{Feed}
use Rattle.t7_base.specs.declared.ids.Feed.TheVariants.{LiveA, LiveB, SnapA, SnapB}
use Rattle.t7_base.specs.declared.ids.Channel.{Channel}
use Rattle.t7_base.specs.declared.ids.Channel.TheVariants as channel
use Rattle.t7_base.specs.declared.public.Public.{Public}
use Rattle.t7_layout.specs.Layouts.{Layout}
use Rattle.t7_layout.specs.Lookups.{IsTable}
use Rattle.t7_eobi.specs.declared.faults.PacketFault.{PacketFault}
use Rattle.t7_eobi.specs.declared.walks.Live.{Live}
use Rattle.t7_eobi.specs.declared.walks.Live.TheVariants.{Message, Beat}
use Rattle.t7_eobi.specs.declared.walks.Snap.{Snap}
use Rattle.t7_eobi.specs.declared.walks.Snap.TheVariants as snap
use Rattle.t7_eobi.specs.Datagrams.{lives_of, packet_number, snaps_of}
use Rattle.t7_eobi.specs.Faults.{Reading, fault_of}

-- what both sides of the feed have: the layout table, by which messages are read and written, and the product
pub record Terms : Type 0 where
  pub layouts : List Layout
  pub listing : Listing

-- the table is a valid layout table, and the product's numbers are in their ranges
pub record AreTerms (terms : Terms) : Type 0 where
  pub table : IsTable terms.layouts
  pub product : IsListing terms.listing

-- a delivery: bytes that came on a feed
pub record Delivery : Type 0 where
  pub feed : Feed
  pub bytes : List ℕ

-- the channel of a feed: each channel is published on two lines, A and B
abbrev pub channel_of : Feed → Channel
channel_of LiveA = channel.Live
channel_of LiveB = channel.Live
channel_of SnapA = channel.Snap
channel_of SnapB = channel.Snap

-- what a delivery is read by: the table, the product's segment and the feed's channel
abbrev pub reading_of : Terms → Feed → Reading
reading_of terms feed = record { layouts = terms.layouts; segment = terms.listing.segment; channel = channel_of feed }

-- What comes, one after another: each item of an accepted live datagram (a message with its number, or a Heartbeat), and each accepted snapshot datagram with its number and its items.
pub data Arrival : Type 0 where
  Told : Live → Arrival
  Packet : ℕ → List Snap → Arrival

-- what has come once these items have come too, in their order
abbrev pub told : List Live → List Arrival → List Arrival
told [] before = before
told (live ∷ lives) before = told lives (Told live ∷ before)

-- what has come once the datagram that these bytes are has come too
abbrev pub taken : List Layout → Channel → List ℕ → List Arrival → List Arrival
taken layouts channel.Live bytes before = told (lives_of layouts bytes) before
taken layouts channel.Snap bytes before = Packet (packet_number layouts bytes) (snaps_of layouts bytes) ∷ before

-- what has come once bytes come too that have this fault, or none: with a fault nothing more has come
abbrev pub taken_where : Option PacketFault → List Layout → Channel → List ℕ → List Arrival → List Arrival
taken_where None layouts channel bytes before = taken layouts channel bytes before
taken_where (Some fault) layouts channel bytes before = before

-- what has come once a delivery came too: a refused one brings nothing
abbrev pub heard : Terms → Delivery → List Arrival → List Arrival
heard terms delivery before = taken_where (fault_of (reading_of terms delivery.feed) delivery.bytes) terms.layouts (channel_of delivery.feed) delivery.bytes before

-- all that came by these deliveries: what the accepted ones among them brought, item by item
abbrev pub arrivals : Terms → List Delivery → List Arrival
arrivals terms [] = []
arrivals terms (delivery ∷ before) = heard terms delivery (arrivals terms before)

-- P holds of what came by each prefix of the deliveries, the empty one and the whole among them
abbrev pub EachPrefix : Terms → (List Arrival → Type 0) → List Delivery → Type 0
EachPrefix terms P [] = P []
EachPrefix terms P (delivery ∷ before) = P (arrivals terms (delivery ∷ before)) × EachPrefix terms P before

-- P holds of each prefix of what came, between the items of a datagram too
abbrev pub EachMoment : (List Arrival → Type 0) → List Arrival → Type 0
EachMoment P [] = P []
EachMoment P (arrival ∷ before) = P (arrival ∷ before) × EachMoment P before

-- live message k came: an accepted live delivery carries it
abbrev pub Came : List Arrival → ℕ → Type 0
Came [] k = ⊥
Came (Told (Message number message) ∷ before) k = (number ≡ k) ⊎ Came before k
Came (Told (Beat last) ∷ before) k = Came before k
Came (Packet number snaps ∷ before) k = Came before k

-- live message k came, and it was this one
abbrev pub CameAs : List Arrival → ℕ → Public → Type 0
CameAs [] k said = ⊥
CameAs (Told (Message number message) ∷ before) k said = ((number ≡ k) × (message ≡ said)) ⊎ CameAs before k said
CameAs (Told (Beat last) ∷ before) k said = CameAs before k said
CameAs (Packet number snaps ∷ before) k said = CameAs before k said

-- the highest number of a live message, 0 where none came
abbrev pub highest : List Arrival → ℕ
highest [] = 0
highest (Told (Message number message) ∷ before) = max number (highest before)
highest (Told (Beat last) ∷ before) = highest before
highest (Packet number snaps ∷ before) = highest before

-- the highest number of a snapshot datagram, 0 where none came
abbrev pub highest_packet : List Arrival → ℕ
highest_packet [] = 0
highest_packet (Told live ∷ before) = highest_packet before
highest_packet (Packet number snaps ∷ before) = max number (highest_packet before)

-- the greatest number that a ProductSummary among them names
abbrev pub greatest_named : List Snap → ℕ
greatest_named [] = 0
greatest_named (snap.Product m ∷ snaps) = max m (greatest_named snaps)
greatest_named (snap.Instrument security count ∷ snaps) = greatest_named snaps
greatest_named (snap.Order side price stamp qty ∷ snaps) = greatest_named snaps

-- the greatest number of a live message that is known: a message with it came, or a Heartbeat or a ProductSummary named it; 0 where there is none
abbrev pub known : List Arrival → ℕ
known [] = 0
known (Told (Message number message) ∷ before) = max number (known before)
known (Told (Beat last) ∷ before) = max last (known before)
known (Packet number snaps ∷ before) = max (greatest_named snaps) (known before)

-- the first of two, where there is one
abbrev pub or_else : {A : Type 0} → Option A → Option A → Option A
or_else (Some x) other = Some x
or_else None other = other

-- the items of the first snapshot datagram that came with this number; one that comes again changes nothing
abbrev pub first : List Arrival → ℕ → Option (List Snap)
first [] i = None
first (Told live ∷ before) i = first before i
first (Packet number snaps ∷ before) i = or_else (first before i) (if eqb number i then Some snaps else None)

-- number k is in the window: no live message of number k + W or more came
abbrev pub Window : Listing → List Arrival → ℕ → Type 0
Window listing came k = highest came < k + listing.window

-- number p is in the packet window: no snapshot datagram of number p + P or more came
abbrev pub PacketWindow : Listing → List Arrival → ℕ → Type 0
PacketWindow listing came p = highest_packet came < p + listing.packets
