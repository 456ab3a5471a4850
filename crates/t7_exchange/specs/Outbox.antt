-- The messages that are still to be sent, the snapshot cycle under way, and how many datagrams were sent: of one product.
use Rattle.std.specs.Prelude.{◌≡◌, ℕ, ◌+◌, ◌-◌, ◌≤◌, List, [], ◌∷◌, ◌++◌, length, take, drop, map}
use Rattle.std.specs.List.{All}
use Rattle.std.specs.declared.alloc.Global.{Global}
use Rattle.std.specs.declared.vec.Vec.{Vec}
use Rattle.t7_base.specs.Listing.{Listing}
use Rattle.t7_base.specs.declared.public.Public.{Public}
use Rattle.t7_layout.specs.Layouts.{Layout}
use Rattle.t7_greedy.specs.Cuts.{IsFilled, IsLongestRun, joined}
use Rattle.t7_eobi.specs.Sizes.{message_size}
use Rattle.t7_packets.specs.Packing.{Datagram, IsWritable, datagram_bytes, of_messages, room_in}
use Rattle.t7_entry.specs.Days.{before_others}
use Rattle.t7_eobi.specs.declared.walks.Snap.{Snap}
use Rattle.t7_feed.specs.Arrivals.{Terms}
use Rattle.t7_feed.specs.Sending.{cycle_at, snap_datagram_bytes, under_way}
use Rattle.t7_snapshot.specs.Noting.{after_all}
use Rattle.t7_snapshot.specs.Sending.{CycleState, fresh_sender}
use Rattle.t7_exchange.specs.declared.sent.Sent.{Sent}

-- what waits to be sent of one product, and what was sent
pub record Outbox : Type 0 where
  -- of each command whose messages aren't all sent, those that aren't
  pub untold : List (List Public)
  -- the number of the last message
  pub last : ℕ
  -- how many datagrams were sent, and how many of them were heartbeats
  pub live : ℕ
  pub beats : ℕ
  -- the sender of snapshot cycles, and how many snapshot datagrams were sent
  pub cycle : CycleState
  pub snaps : ℕ
  -- for how many more commands there is room in the list of those whose messages are still to be sent
  pub spare : ℕ

-- nothing was told, and nothing was sent
abbrev pub empty_outbox : Terms → ℕ → ℕ → Outbox
empty_outbox terms spare room = record { untold = []; last = 0; live = 0; beats = 0; cycle = fresh_sender terms room; snaps = 0; spare = spare }

-- the messages of each command
abbrev pub lists_of : List (Vec Public Global) → List (List Public)
lists_of queue = map (λ (messages : Vec Public Global). messages.items) queue

-- these, without so many of the first command
abbrev pub left_of : ℕ → List (List Public) → List (List Public)
left_of begun [] = []
left_of begun (first ∷ others) = drop begun first ∷ others

-- the messages of the first command
abbrev pub first_in : List (List Public) → List Public
first_in [] = []
first_in (first ∷ others) = first

-- each command has messages that are still to be sent
abbrev pub AreFilled : List (List Public) → Type 0
AreFilled [] = Unit {0}
AreFilled (first ∷ others) = IsFilled first × AreFilled others

-- what stands in an outbox, where the next message has this number
pub record IsOutbox (out : Outbox) (next : ℕ) : Type 0 where
  pub some : 1 ≤ next
  pub filled : AreFilled out.untold
  pub writable : All IsWritable (joined out.untold)
  pub numbers : next + length (joined out.untold) ≡ out.last + 1
  pub few : out.last ≤ 800_000
  pub beats : out.beats ≤ 2_000_000_000
  pub live : out.live + length (joined out.untold) ≤ out.last + out.beats
  pub snaps : out.snaps ≤ 4_000_000_000

-- the messages of a command are put behind those that are still to be sent
abbrev pub pushed : Outbox → List Public → ℕ → Outbox
pushed out messages spare = record out { untold = out.untold ++ before_others messages []; last = out.last + length messages; spare = spare }

-- the sender of snapshot cycles notes messages
abbrev pub all_noted : CycleState → List Public → ℕ → CycleState
all_noted sender messages spare = record sender {
  noted = sender.noted + length messages;
  image = after_all sender.terms.listing.securities sender.image messages;
  spare = spare;
}

-- the messages of a command are told: they are still to be sent, and the sender of snapshot cycles has noted them
abbrev pub told : Outbox → List Public → ℕ → ℕ → Outbox
told out messages spare room = record (pushed out messages spare) { cycle = all_noted out.cycle messages room }

-- so many messages of the first command are sent in a datagram
abbrev pub passed : Outbox → ℕ → ℕ → Outbox
passed out used spare = record out {
  untold = before_others (drop used (first_in out.untold)) (drop 1 out.untold);
  live = out.live + 1;
  spare = spare;
}

-- a datagram is handed out in front of what stood in the buffer
pub record IsPut (layouts : List Layout) (segment : ℕ) (d : Datagram) (old new : List ℕ) (sent : Sent) : Type 0 where
  pub number : sent.number ≡ d.number
  pub length : sent.len ≡ length (datagram_bytes layouts segment d)
  pub bytes : new ≡ datagram_bytes layouts segment d ++ drop sent.len old

-- the longest run of the first command's messages is sent and handed out
pub record Ships (layouts : List Layout) (listing : Listing) (old new : Outbox) (old_out new_out : List ℕ) (sent : Sent) : Type 0 where
  pub used : ℕ
  pub some : 1 ≤ length (first_in old.untold)
  pub few : length (joined old.untold) ≤ old.last
  pub longest : IsLongestRun (message_size layouts) (room_in layouts listing.datagram) (first_in old.untold) (take used (first_in old.untold)) (drop used (first_in old.untold))
  pub goes_on : new ≡ passed old used new.spare
  pub put : IsPut layouts listing.segment (of_messages (old.live + 1) ((old.last - length (joined old.untold)) + 1) (take used (first_in old.untold))) old_out new_out sent

-- the cycle under way, or a new one of what was noted where none is
abbrev pub frozen : Outbox → Outbox
frozen out = record out { cycle = record out.cycle { left = under_way out.cycle.left (cycle_at out.cycle.terms out.cycle.noted out.cycle.image) } }

-- the next snapshot datagram of the cycle under way, or the first of a new one of what was noted, is sent and handed out
pub record Snaps (old new : Outbox) (old_out new_out : List ℕ) (sent : Sent) : Type 0 where
  pub items : List Snap
  pub next : (frozen old).cycle.left ≡ items ∷ new.cycle.left
  pub number : sent.number ≡ old.snaps + 1
  pub count : sent.len ≡ length (snap_datagram_bytes old.cycle.terms sent.number items)
  pub bytes : new_out ≡ snap_datagram_bytes old.cycle.terms sent.number items ++ drop sent.len old_out
  pub goes_on : new ≡ record old { cycle = record old.cycle { left = new.cycle.left; spare = new.cycle.spare }; snaps = old.snaps + 1 }
