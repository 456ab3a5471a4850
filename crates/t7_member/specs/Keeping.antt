-- What a member keeps, and what that has to do with all that came.
use Rattle.std.specs.Prelude.{◌≡◌, ℕ, ℤ, ◌+◌, ◌<◌, ◌≤◌, List, [], Option, Some, None}
use Rattle.t7_base.specs.Listing.{Listing}
use Rattle.t7_base.specs.declared.public.Public.{Public}
use Rattle.t7_base.specs.declared.public.Resting.{Resting}
use Rattle.t7_eobi.specs.declared.walks.Snap.{Snap}
use Rattle.t7_snapshot.specs.Store.{seen}
use Rattle.t7_member.specs.declared.standing.Refusal.{Refusal}
use Rattle.t7_lines.specs.declared.tally.Tallies.{Tallies}
use Rattle.t7_lines.specs.Gap.{kept_at}
use Rattle.t7_book.specs.Acts.{Act, commands_of}
use Rattle.t7_feed.specs.Arrivals.{Arrival, Terms, EachMoment, Came, CameAs, highest, highest_packet, known, first, Window, PacketWindow}
use Rattle.t7_feed.specs.Cycles.{Section, orders_of}
use Rattle.t7_feed.specs.Fitting.{staged}
use Rattle.t7_feed.specs.Reached.{Reaches}
use Rattle.t7_feed.specs.Sending.{AreSent, book_at, message_sent}
use Rattle.t7_feed.specs.Whole.{Supported, Whole}

-- what contracts see of a member
pub record Image : Type 0 where
  -- what it is read by
  pub terms : Terms
  -- the number that its book stands at, or none
  pub base : Option ℕ
  -- the orders of its book, in the order of the book
  pub list : List Resting
  -- the live messages that it keeps, with their numbers
  pub kept : List (ℕ × Public)
  -- the snapshot datagrams that it keeps, with their numbers
  pub ring : List (ℕ × List ℕ)
  -- the highest number of a live message and of a snapshot datagram
  pub highest : ℕ
  pub highest_packet : ℕ
  -- the greatest number of a live message that is known
  pub known : ℕ
  -- the message that misfitted, and why, while it is without a book for that
  pub refused : Option Refusal
  -- what each feed gave, and how many deliveries were refused
  pub tallies : Tallies
  pub bad : ℕ

-- the items of the snapshot datagram that is kept under a number
abbrev pub packets_of : Image → ℕ → Option (List Snap)
packets_of member i = seen (record { terms = member.terms; highest = member.highest_packet; ring = member.ring }) i

-- the base, else the refused number, else 0
abbrev pub floor_of : Option ℕ → Option Refusal → ℕ
floor_of (Some n) refused = n
floor_of None (Some q) = q.number
floor_of None None = 0

-- the number up to which a member keeps no message: the base, else the refused number, else 0
abbrev pub floor : Image → ℕ
floor member = floor_of member.base member.refused

-- a cycle at m is covered: there is a base of at least m, or a refused number above m
abbrev pub Covers : Option ℕ → Option Refusal → ℕ → Type 0
Covers (Some n) refused m = m ≤ n
Covers None (Some q) m = m < q.number
Covers None None m = ⊥

-- the orders of these sections fit, each as an Add the list of those before it
abbrev pub Fits : List ℤ → List Section → Type 0
Fits securities parts = (list : List Resting) × (staged securities (orders_of parts) [] ≡ Some list)

-- each whole cycle whose first number is in its packet window and whose orders fit is covered
abbrev pub CoversCycles : Listing → Image → List Arrival → Type 0
CoversCycles listing member came =
    (m p q : ℕ) (parts : List Section) → Whole listing came m p q parts → PacketWindow listing came p → Fits listing.securities parts → Covers member.base member.refused m

-- What a member keeps of what came, whatever it was: the highest numbers and the greatest known number; under each number that it keeps, the message that came
-- with it, in its window; each message that came, is in its window and is above the floor; in the packet window exactly the first datagram of each number; a
-- supported base, or a refusal, and not both; and it covered each whole cycle that came in its packet window and whose orders fit.
pub record Holds (terms : Terms) (member : Image) (came : List Arrival) : Type 0 where
  pub terms_are : member.terms ≡ terms
  pub highest : member.highest ≡ highest came
  pub highest_packet : member.highest_packet ≡ highest_packet came
  pub known : member.known ≡ known came
  pub kept : (k : ℕ) (said : Public) → kept_at member.kept k ≡ Some said → CameAs came k said × Window terms.listing came k
  pub all : (k : ℕ) → floor member < k → Came came k → Window terms.listing came k → (said : Public) × (kept_at member.kept k ≡ Some said)
  pub packets : (i : ℕ) → PacketWindow terms.listing came i → packets_of member i ≡ first came i
  pub near : (i : ℕ) (snaps : List Snap) → packets_of member i ≡ Some snaps → PacketWindow terms.listing came i
  pub supported : (n : ℕ) → member.base ≡ Some n → Supported terms.listing came n
  pub one : (n : ℕ) → member.base ≡ Some n → member.refused ≡ None
  pub cycles : EachMoment (CoversCycles terms.listing member) came

-- the number after the base isn't kept
abbrev pub Rests : Image → Type 0
Rests member = (n : ℕ) → member.base ≡ Some n → kept_at member.kept (n + 1) ≡ None

-- on what acts sent: nothing is refused, the list is the book beside the base, and each kept message was sent under its number
pub record Mirrors (terms : Terms) (acts : List Act) (member : Image) : Type 0 where
  pub trusted : member.refused ≡ None
  pub list : (n : ℕ) → member.base ≡ Some n → member.list ≡ book_at terms.listing (commands_of acts) n
  pub kept : (k : ℕ) (said : Public) → kept_at member.kept k ≡ Some said → message_sent terms.listing acts k ≡ Some said

-- What a member keeps of what came, and beside a base its next number isn't kept; and where all that came is what acts sent, its book is that of the exchange and its base is what is reached.
pub record Keeps (terms : Terms) (acts : List Act) (member : Image) (came : List Arrival) : Type 0 where
  pub holds : Holds terms member came
  pub rests : Rests member
  pub mirrors : AreSent terms acts came → Mirrors terms acts member × Reaches terms.listing came member.base
