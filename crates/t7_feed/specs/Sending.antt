-- What an exchange sends: the snapshot datagrams of what it did, the bytes of all its datagrams, and the deliveries that are genuine.
use Rattle.std.specs.Prelude.{◌≡◌, ℕ, zero, suc, ◌+◌, ◌≤◌, ℤ, pos, List, [], ◌∷◌, ◌++◌, length, map, Option, Some, None, slice_get, Contains}
use Rattle.std.specs.List.{All, concat, filter}
use Rattle.std.specs.Ordering.{int_eq}
use Rattle.t7_base.specs.Listing.{Listing}
use Rattle.t7_base.specs.Ranges.{IsPrice, IsQuantity, IsMoment}
use Rattle.t7_base.specs.declared.ids.Channel.{Channel}
use Rattle.t7_base.specs.declared.ids.Channel.TheVariants as channel
use Rattle.t7_base.specs.declared.public.Public.{Public}
use Rattle.t7_base.specs.declared.public.Resting.{Resting}
use Rattle.t7_layout.specs.Layouts.{Layout}
use Rattle.t7_eobi.specs.declared.walks.Snap.{Snap}
use Rattle.t7_eobi.specs.declared.walks.Live.TheVariants.{Message, Beat}
use Rattle.t7_eobi.specs.Bytes.{header_bytes, snap_bytes}
use Rattle.t7_eobi.specs.Said.{ReadsLive, ReadsSnap}
use Rattle.t7_book.specs.declared.command.Command.{Command}
use Rattle.t7_book.specs.declared.command.Command.TheVariants as command
use Rattle.t7_book.specs.Orders.{shown}
use Rattle.t7_book.specs.Steps.{messages}
use Rattle.t7_book.specs.Trace.{AreAccepted, market, trace}
use Rattle.t7_greedy.specs.Cuts.{cut}
use Rattle.t7_eobi.specs.Sizes.{snap_size}
use Rattle.t7_packets.specs.Packing.{datagram_bytes, room_in}
use Rattle.t7_book.specs.Acts.{Act, Accepts, Beats, Snaps, commands_of}
use Rattle.t7_packets.specs.Datagrams.{live_datagrams}
use Rattle.t7_feed.specs.Arrivals.{Arrival, Told, Packet, Delivery, Terms, channel_of}
use Rattle.t7_feed.specs.Cycles.{Entry, Section, cycle_of}

-- an order of a book as a snapshot has it
abbrev pub entry_of : Resting → Entry
entry_of order = record { side = order.side; price = order.price; stamp = order.stamp; qty = order.qty }

-- for each of the securities its orders, in the order of the book
abbrev pub parts_of : List ℤ → List Resting → List Section
parts_of [] orders = []
parts_of (security ∷ others) orders = record { security = security; orders = map entry_of (filter (λ order. int_eq order.security security) orders) } ∷ parts_of others orders

-- the cycle of a book at m: its items, cut greedily into datagrams
abbrev pub cycle_at : Terms → ℕ → List Resting → List (List Snap)
cycle_at terms m orders = cut (snap_size terms.layouts) (room_in terms.layouts terms.listing.datagram) (cycle_of m (parts_of terms.listing.securities orders))

-- the number of the last message of these commands, 0 before the first
abbrev pub last_of : Listing → List Command → ℕ
last_of listing cs = length (trace listing cs)

-- the book beside message n, as the feed shows it
abbrev pub book_at : Listing → List Command → ℕ → List Resting
book_at listing cs n = shown (market listing cs n)

-- the cycle at the last message of these commands
abbrev pub cycle_now : Terms → List Command → List (List Snap)
cycle_now terms cs = cycle_at terms (last_of terms.listing cs) (book_at terms.listing cs (last_of terms.listing cs))

-- what is left of the cycle under way, or of a new one where none is
abbrev pub under_way : List (List Snap) → List (List Snap) → List (List Snap)
under_way [] new = new
under_way (snaps ∷ left) new = snaps ∷ left

-- the first of a list, and what the others lead to
abbrev pub first_and : {A : Type 0} → List A → (List A → List A) → List A
first_and [] rest = []
first_and (x ∷ xs) rest = x ∷ rest xs

-- The snapshot datagrams of acts, by their items, where these commands came before and this is left of the cycle under way: each Snap sends the next
-- datagram of the cycle under way, or the first of a new one at the last message so far.
abbrev pub snaps_from : Terms → List Command → List (List Snap) → List Act → List (List Snap)
snaps_from terms cs left [] = []
snaps_from terms cs left (Accepts command ∷ acts) = snaps_from terms (cs ++ command ∷ []) left acts
snaps_from terms cs left (Beats ∷ acts) = snaps_from terms cs left acts
snaps_from terms cs left (Snaps ∷ acts) = first_and (under_way left (cycle_now terms cs)) (λ rest. snaps_from terms cs rest acts)

-- the snapshot datagrams of a day's acts
abbrev pub snap_datagrams : Terms → List Act → List (List Snap)
snap_datagrams terms acts = snaps_from terms [] [] acts

-- the bytes of a snapshot datagram of this number
abbrev pub snap_datagram_bytes : Terms → ℕ → List Snap → List ℕ
snap_datagram_bytes terms number snaps = header_bytes terms.layouts terms.listing.segment number ++ concat (map (snap_bytes terms.layouts) snaps)

-- the bytes of snapshot datagrams, which are numbered one after another
abbrev pub numbered_bytes : Terms → ℕ → List (List Snap) → List (List ℕ)
numbered_bytes terms number [] = []
numbered_bytes terms number (snaps ∷ others) = snap_datagram_bytes terms number snaps ∷ numbered_bytes terms (number + 1) others

-- the bytes that acts send on each channel: the live datagrams, and the snapshot datagrams, which are numbered from 1 through all cycles
abbrev pub sent_on : Terms → List Act → Channel → List (List ℕ)
sent_on terms acts channel.Live = map (datagram_bytes terms.layouts terms.listing.segment) (live_datagrams terms.layouts terms.listing acts)
sent_on terms acts channel.Snap = numbered_bytes terms 1 (snap_datagrams terms acts)

-- The deliveries are genuine: the bytes of each are those of a datagram that the acts send on its channel. Which of them come, in which order, how often and on which line is free.
abbrev pub Genuine : Terms → List Act → List Delivery → Type 0
Genuine terms acts [] = Unit {0}
Genuine terms acts (delivery ∷ before) = Contains (sent_on terms acts (channel_of delivery.feed)) delivery.bytes × Genuine terms acts before

-- the fields of a command are in their ranges
abbrev pub IsRanged : Command → Type 0
IsRanged (command.New moment session security side price qty client) = IsMoment moment × IsPrice price × IsQuantity (pos qty)
IsRanged (command.Modify moment session order price qty client) = IsMoment moment × IsPrice price × IsQuantity (pos qty)
IsRanged (command.Delete moment session order client) = IsMoment moment
IsRanged (command.DeleteAll moment session security) = IsMoment moment
IsRanged (command.Clear moment security) = IsMoment moment

-- the fields of each command are
abbrev pub AreRanged : List Command → Type 0
AreRanged [] = Unit {0}
AreRanged (c ∷ cs) = IsRanged c × AreRanged cs

-- how many heartbeats were sent
abbrev pub beats_in : List Act → ℕ
beats_in [] = 0
beats_in (Accepts command ∷ acts) = beats_in acts
beats_in (Beats ∷ acts) = beats_in acts + 1
beats_in (Snaps ∷ acts) = beats_in acts

-- how many snapshot datagrams were sent
abbrev pub snaps_in : List Act → ℕ
snaps_in [] = 0
snaps_in (Accepts command ∷ acts) = snaps_in acts
snaps_in (Beats ∷ acts) = snaps_in acts
snaps_in (Snaps ∷ acts) = snaps_in acts + 1

-- The acts of an exchange in a day: its commands were accepted, their fields are in their ranges, and it sent at most 2,000,000,000 heartbeats and 4,000,000,000 snapshot
-- datagrams. So no number passes 32 bits.
pub record AreActs (listing : Listing) (acts : List Act) : Type 0 where
  pub accepted : AreAccepted listing (commands_of acts)
  pub ranged : AreRanged (commands_of acts)
  pub beats : beats_in acts ≤ 2_000_000_000
  pub snaps : snaps_in acts ≤ 4_000_000_000

-- the element of a number, counted from 1
abbrev pub at_number : {A : Type 0} → List A → ℕ → Option A
at_number xs zero = None
at_number xs (suc n) = slice_get xs n

-- message k of acts, if there is one
abbrev pub message_sent : Listing → List Act → ℕ → Option Public
message_sent listing acts k = at_number (messages (trace listing (commands_of acts))) k

-- the items of snapshot datagram i of acts, if there is one
abbrev pub packet_sent : Terms → List Act → ℕ → Option (List Snap)
packet_sent terms acts i = at_number (snap_datagrams terms acts) i

-- what came is what acts sent: each message under its number, and each snapshot datagram under its number
abbrev pub AreSent : Terms → List Act → List Arrival → Type 0
AreSent terms acts [] = Unit {0}
AreSent terms acts (Told (Message k said) ∷ before) = (message_sent terms.listing acts k ≡ Some said) × AreSent terms acts before
AreSent terms acts (Told (Beat last) ∷ before) = AreSent terms acts before
AreSent terms acts (Packet i snaps ∷ before) = (packet_sent terms acts i ≡ Some snaps) × AreSent terms acts before

-- each datagram of acts is read again as what it was written for
pub record AreSayable (terms : Terms) (acts : List Act) : Type 0 where
  pub live : All (λ d. ReadsLive terms.layouts terms.listing.segment d.number d.items (datagram_bytes terms.layouts terms.listing.segment d)) (live_datagrams terms.layouts terms.listing acts)
  pub snaps : (i : ℕ) (snaps : List Snap) → packet_sent terms acts i ≡ Some snaps → ReadsSnap terms.layouts terms.listing.segment i snaps (snap_datagram_bytes terms i snaps)
