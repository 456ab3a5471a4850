-- Whole cycles among what came, and what they support.
use Rattle.std.specs.Prelude.{ℕ, ◌+◌, ◌<◌, ◌≤◌, List, Option, Some, None}
use Rattle.t7_base.specs.Listing.{Listing}
use Rattle.t7_feed.specs.Arrivals.{Arrival, Came, first, Window, PacketWindow}
use Rattle.t7_feed.specs.Cycles.{Section, Run}

-- the snapshot datagrams p to q, each the first that came with its number, are one whole cycle at m with these sections
pub record Whole (listing : Listing) (came : List Arrival) (m p q : ℕ) (parts : List Section) : Type 0 where
  pub run : Run listing.securities (first came) m p q parts

-- number n is supported: some whole cycle at m came, at any time, and each message above m up to n came
pub record Supported (listing : Listing) (came : List Arrival) (n : ℕ) : Type 0 where
  pub m : ℕ
  pub p : ℕ
  pub q : ℕ
  pub parts : List Section
  pub whole : Whole listing came m p q parts
  pub from : m ≤ n
  pub each : (k : ℕ) → m < k → k ≤ n → Came came k

-- message k is held: it came, and its number is still in the window
abbrev pub Buffered : Listing → List Arrival → ℕ → Type 0
Buffered listing came k = Came came k × Window listing came k

-- j is the greatest number from n on up to which each number above n has what is asked
pub record Farthest (n j : ℕ) (Has : ℕ → Type 0) : Type 0 where
  pub from : n ≤ j
  pub each : (k : ℕ) → n < k → k ≤ j → Has k
  pub stop : Has (j + 1) → ⊥

-- there is no number, or it is below m
abbrev pub IsBelow : Option ℕ → ℕ → Type 0
IsBelow None m = Unit {0}
IsBelow (Some n) m = n < m

-- With snapshot datagram i a whole cycle at m is there: i is one of its numbers, its first number is in the packet window, and nothing was reached or m is above it.
pub record Offers (listing : Listing) (came : List Arrival) (i : ℕ) (before : Option ℕ) (m : ℕ) (parts : List Section) : Type 0 where
  pub p : ℕ
  pub q : ℕ
  pub whole : Whole listing came m p q parts
  pub near : PacketWindow listing came p
  pub from : p ≤ i
  pub upto : i ≤ q
  pub above : IsBelow before m
