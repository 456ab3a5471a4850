-- One whole cycle of snapshot datagrams: what a snapshot of the book is on the feed.
use Rattle.std.specs.Prelude.{◌≡◌, ℕ, ◌+◌, ◌≤◌, ℤ, List, [], ◌∷◌, ◌++◌, length, map, Option, Some}
use Rattle.t7_base.specs.declared.ids.Side.{Side}
use Rattle.t7_base.specs.declared.public.Resting.{Resting}
use Rattle.t7_eobi.specs.declared.walks.Snap.{Snap}
use Rattle.t7_eobi.specs.declared.walks.Snap.TheVariants as snap
use Rattle.t7_greedy.specs.Cuts.{IsFilled, joined}

-- an order of a snapshot, in its security
pub record Entry : Type 0 where
  pub side : Side
  pub price : ℤ
  pub stamp : ℕ
  pub qty : ℕ

-- a security's part of a snapshot: the security and its orders
pub record Section : Type 0 where
  pub security : ℤ
  pub orders : List Entry

-- the item that an order of a snapshot is
abbrev pub item_of : Entry → Snap
item_of entry = snap.Order entry.side entry.price entry.stamp entry.qty

-- the items of these sections: for each its InstrumentSummary with the count of its orders, and its orders
abbrev pub body_of : List Section → List Snap
body_of [] = []
body_of (part ∷ parts) = snap.Instrument part.security (length part.orders) ∷ map item_of part.orders ++ body_of parts

-- the items of a cycle at m: the ProductSummary, which names m as the last message that the snapshot has, and the sections
abbrev pub cycle_of : ℕ → List Section → List Snap
cycle_of m parts = snap.Product m ∷ body_of parts

-- an order of a snapshot as the feed shows it
abbrev pub resting_at : ℤ → Entry → Resting
resting_at security entry = record { security = security; side = entry.side; price = entry.price; stamp = entry.stamp; qty = entry.qty }

-- the orders of a cycle, in the order in which they come
abbrev pub orders_of : List Section → List Resting
orders_of [] = []
orders_of (part ∷ parts) = map (resting_at part.security) part.orders ++ orders_of parts

-- the first datagram has an item
abbrev pub Begins : List (List Snap) → Type 0
Begins [] = ⊥
Begins (snaps ∷ others) = IsFilled snaps

-- the last datagram has an item
abbrev pub Ends : List (List Snap) → Type 0
Ends [] = ⊥
Ends (snaps ∷ []) = IsFilled snaps
Ends (snaps ∷ other ∷ others) = Ends (other ∷ others)

-- These datagrams, each by its items, are one whole cycle at m with these sections: their items in order are those of the cycle. The first datagram's
-- first item is the ProductSummary, and the last datagram's last item ends the cycle.
pub record Spells (securities : List ℤ) (m : ℕ) (parts : List Section) (datagrams : List (List Snap)) : Type 0 where
  pub named : map (λ part. part.security) parts ≡ securities
  pub spelled : joined datagrams ≡ cycle_of m parts
  pub begins : Begins datagrams
  pub ends : Ends datagrams

-- the datagrams numbered p, p + 1 and so on are these, where a number has a datagram or none
abbrev pub Stand : (ℕ → Option (List Snap)) → ℕ → List (List Snap) → Type 0
Stand at p [] = Unit {0}
Stand at p (snaps ∷ others) = (at p ≡ Some snaps) × Stand at (p + 1) others

-- the datagrams numbered p to q are one whole cycle at m
pub record Run (securities : List ℤ) (at : ℕ → Option (List Snap)) (m p q : ℕ) (parts : List Section) : Type 0 where
  pub datagrams : List (List Snap)
  pub stand : Stand at p datagrams
  pub last : q + 1 ≡ p + length datagrams
  pub spells : Spells securities m parts datagrams

-- datagram i stands in a whole cycle at m
pub record Finds (securities : List ℤ) (at : ℕ → Option (List Snap)) (i m : ℕ) (parts : List Section) : Type 0 where
  pub p : ℕ
  pub q : ℕ
  pub run : Run securities at m p q parts
  pub from : p ≤ i
  pub upto : i ≤ q

-- two whole cycles are one: their numbers, their first and last datagrams and their sections
pub record AreOneCycle (m n p r q s : ℕ) (parts others : List Section) : Type 0 where
  pub number : m ≡ n
  pub first : p ≡ r
  pub last : q ≡ s
  pub sections : parts ≡ others
