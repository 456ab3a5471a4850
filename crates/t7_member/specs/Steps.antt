-- What the member's own calls do, by the calls below them.
use Rattle.std.specs.Prelude.{◌≡◌, ℕ, ◌+◌, ◌-◌, ◌<◌, max, ◌⊎◌, ◌↔◌, ◌||◌, IsTrue, Bool, false, List, [], ◌∷◌, Option, Some, None}
use Rattle.t7_base.specs.Listing.{Listing}
use Rattle.t7_base.specs.declared.public.Public.{Public}
use Rattle.t7_base.specs.declared.public.Resting.{Resting}
use Rattle.t7_eobi.specs.declared.walks.Live.{Live}
use Rattle.t7_eobi.specs.declared.walks.Live.TheVariants.{Message, Beat}
use Rattle.t7_eobi.specs.declared.walks.Snap.{Snap}
use Rattle.t7_mbook.specs.declared.misfit.Misfit.{Misfit}
use Rattle.t7_mbook.specs.Misfits.{misfit_of}
use Rattle.t7_lines.specs.declared.put.Put.{Put}
use Rattle.t7_lines.specs.declared.put.Put.TheVariants.{New, Old, Outside}
use Rattle.t7_lines.specs.Gap.{kept_at}
use Rattle.t7_lines.specs.Puts.{IsPut, Puts, TakesOff}
use Rattle.t7_base.specs.declared.ids.Feed.{Feed}
use Rattle.t7_base.specs.declared.ids.Channel.{Channel}
use Rattle.t7_base.specs.declared.ids.Channel.TheVariants as channel
use Rattle.t7_eobi.specs.Datagrams.{lives_of, packet_number, snaps_of}
use Rattle.t7_lines.specs.Gap.{noted_on}
use Rattle.t7_feed.specs.Arrivals.{channel_of, greatest_named, Terms}
use Rattle.t7_feed.specs.Cycles.{Section, orders_of}
use Rattle.t7_feed.specs.Fitting.{staged, stepped}
use Rattle.t7_feed.specs.Whole.{IsBelow}
use Rattle.t7_member.specs.Keeping.{Image, packets_of, Rests}
use Rattle.t7_member.specs.Taking.{Assembles, IsUpTo}

-- the member after the next message
abbrev pub moved : Image → ℕ → List Resting → List (ℕ × Public) → Image
moved member n list kept = record member { base = Some (n + 1); list = list; kept = kept }

-- the member after the next message, which misfits
abbrev pub dropped : Image → ℕ → Misfit → List (ℕ × Public) → Image
dropped member n why kept = record member { base = None; list = []; refused = Some (record { number = n + 1; why = why }); kept = kept }

-- the member once message k is noted and put
abbrev pub noted : Image → ℕ → List (ℕ × Public) → Image
noted member k kept = record member { highest = max k member.highest; known = max k member.known; kept = kept }

-- the member once a Heartbeat named this number
abbrev pub beaten : Image → ℕ → Image
beaten member last = record member { known = max last member.known }

-- message k, said, is put into the gap buffer beside a base, where h is the highest number put so far
pub record Buffers (window h : ℕ) (base : Option ℕ) (k : ℕ) (said : Public) (old new : List (ℕ × Public)) : Type 0 where
  pub put : Put
  pub answer : IsPut put window h base k old
  pub kept : Puts put window h k said old new

-- the kept messages after the base are applied, while they are there
pub data Chains (listing : Listing) : Image → Image → Type 0 where
  ends : {old : Image} → Rests old → Chains listing old old
  next : {old new : Image} (n : ℕ) (said : Public) (list : List Resting) (kept : List (ℕ × Public)) →
      old.base ≡ Some n → kept_at old.kept (n + 1) ≡ Some said → TakesOff (n + 1) old.kept kept →
      stepped listing.securities old.list said ≡ Some list → Chains listing (moved old n list kept) new → Chains listing old new
  fails : {old : Image} (n : ℕ) (said : Public) (why : Misfit) (kept : List (ℕ × Public)) →
      old.base ≡ Some n → kept_at old.kept (n + 1) ≡ Some said → TakesOff (n + 1) old.kept kept →
      misfit_of listing.securities old.list said ≡ Some why → Chains listing old (dropped old n why kept)

-- live message k, said, is taken: it is put into the gap buffer, or applied at once where it is the next outside the window; then the kept messages after the base follow
pub data Hears (listing : Listing) (k : ℕ) (said : Public) : Image → Image → Type 0 where
  at_once : {old new : Image} (n : ℕ) (list : List Resting) (kept : List (ℕ × Public)) →
      Buffers listing.window (max k old.highest) old.base k said old.kept kept →
      old.base ≡ Some n → k ≡ n + 1 → stepped listing.securities old.list said ≡ Some list →
      Chains listing (moved (noted old k kept) n list kept) new → Hears listing k said old new
  misfits : {old : Image} (n : ℕ) (why : Misfit) (kept : List (ℕ × Public)) →
      Buffers listing.window (max k old.highest) old.base k said old.kept kept →
      old.base ≡ Some n → k ≡ n + 1 → misfit_of listing.securities old.list said ≡ Some why →
      Hears listing k said old (dropped (noted old k kept) n why kept)
  others : {old new : Image} (kept : List (ℕ × Public)) →
      Buffers listing.window (max k old.highest) old.base k said old.kept kept →
      ((n : ℕ) → old.base ≡ Some n → k ≡ n + 1 → max k old.highest < k + listing.window) →
      Chains listing (noted old k kept) new → Hears listing k said old new

-- a message of this number is new to the member: it is above the base and not kept, and it is in the window or the next
abbrev pub IsFresh : Listing → Image → ℕ → Type 0
IsFresh listing member k =
    IsBelow member.base k × (kept_at member.kept k ≡ None) × ((max k member.highest < k + listing.window) ⊎ ((n : ℕ) × (member.base ≡ Some n) × (k ≡ n + 1)))

-- the member once snapshot datagram i was taken
abbrev pub received : Image → ℕ → List Snap → List (ℕ × List ℕ) → Image
received member i snaps ring = record member { highest_packet = max i member.highest_packet; known = max (greatest_named snaps) member.known; ring = ring }

-- the member with a snapshot at m as its base
abbrev pub adopted : Image → ℕ → List Resting → Image
adopted member m list = record member { base = Some m; list = list; refused = None }

-- snapshot datagram i is taken: the whole cycle in which it stands, if there is one, is adopted where it is above the base, not below what was refused, and its orders fit
pub data Receives (listing : Listing) (i : ℕ) (snaps : List Snap) : Image → Image → Type 0 where
  finds_none : {old : Image} (ring : List (ℕ × List ℕ)) →
      Assembles listing (max i old.highest_packet) i snaps (packets_of old) (packets_of (received old i snaps ring)) None →
      Receives listing i snaps old (received old i snaps ring)
  ignores : {old : Image} (ring : List (ℕ × List ℕ)) (m : ℕ) (parts : List Section) →
      Assembles listing (max i old.highest_packet) i snaps (packets_of old) (packets_of (received old i snaps ring)) (Some (m, parts)) →
      (IsBelow old.base m → IsUpTo old.refused m → staged listing.securities (orders_of parts) [] ≡ None) →
      Receives listing i snaps old (received old i snaps ring)
  adopts : {old new : Image} (ring : List (ℕ × List ℕ)) (m : ℕ) (parts : List Section) (list : List Resting) →
      Assembles listing (max i old.highest_packet) i snaps (packets_of old) (packets_of (received old i snaps ring)) (Some (m, parts)) →
      IsBelow old.base m → IsUpTo old.refused m → staged listing.securities (orders_of parts) [] ≡ Some list →
      Chains listing (adopted (received old i snaps ring) m list) new → Receives listing i snaps old new

-- what one item of a live datagram does, and whether it gave something new
abbrev pub TellsOne : Listing → Live → Bool → Image → Image → Type 0
TellsOne listing (Message k said) new old later = Hears listing k said old later × (IsTrue new ↔ IsFresh listing old k)
TellsOne listing (Beat last) new old later = (later ≡ beaten old last) × (new ≡ false)

-- what the items of a live datagram do one after another, and whether one of them gave something new
pub data Tells (listing : Listing) : List Live → Bool → Image → Image → Type 0 where
  all : {old : Image} → Tells listing [] false old old
  one : {old mid last : Image} {lives : List Live} {later : Bool} (live : Live) (new : Bool) → TellsOne listing live new old mid → Tells listing lives later mid last → Tells listing (live ∷ lives) (new || later) old last

-- a snapshot datagram of this number is new to the member: it is in the packet window, and none is kept under it
abbrev pub IsNewPacket : Listing → Image → ℕ → Type 0
IsNewPacket listing member i = (member.highest_packet < i + listing.packets) × (packets_of member i ≡ None)

-- what an accepted datagram of a channel does, and whether it gave something new
abbrev pub TakesDatagram : Terms → Channel → List ℕ → Bool → Image → Image → Type 0
TakesDatagram terms channel.Live bytes new old later = Tells terms.listing (lives_of terms.layouts bytes) new old later
TakesDatagram terms channel.Snap bytes new old later =
    Receives terms.listing (packet_number terms.layouts bytes) (snaps_of terms.layouts bytes) old later × (IsTrue new ↔ IsNewPacket terms.listing old (packet_number terms.layouts bytes))

-- what an accepted delivery does: its datagram is taken and counted
pub record Delivers (feed : Feed) (bytes : List ℕ) (old new : Image) : Type 0 where
  pub fresh : Bool
  pub between : Image
  pub takes : TakesDatagram old.terms (channel_of feed) bytes fresh old between
  pub counted : new ≡ record between { tallies = noted_on old.tallies feed fresh; bad = old.bad }

-- how many numbers are left above the base
abbrev pub left_above : Option ℕ → ℕ
left_above None = 0
left_above (Some n) = 4294967296 - n

-- a message that came outside the buffer is applied at once, where it is the next; every other waits
abbrev pub Settles : Listing → Put → ℕ → Public → Image → Image → Type 0
Settles listing put k said old new =
    ((n : ℕ) × (old.base ≡ Some n) × (k ≡ n + 1)
    × ((list : List Resting) → stepped listing.securities old.list said ≡ Some list → new ≡ moved old n list old.kept)
    × ((why : Misfit) → misfit_of listing.securities old.list said ≡ Some why → new ≡ dropped old n why old.kept))
    ⊎ ((new ≡ old) × (put ≡ Outside → (n : ℕ) → old.base ≡ Some n → k ≡ n + 1 → ⊥))

-- a message that was put is kept, or came outside the buffer and is the next
abbrev pub IsKeptOrNext : Put → Option ℕ → ℕ → Type 0
IsKeptOrNext Old base k = ⊥
IsKeptOrNext Outside base k = (n : ℕ) × (base ≡ Some n) × (k ≡ n + 1)
IsKeptOrNext New base k = Unit {0}
