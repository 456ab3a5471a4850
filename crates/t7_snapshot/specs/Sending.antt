-- What is left to send of a cycle.
use Rattle.std.specs.Prelude.{◌≡◌, ℕ, ◌≤◌, ℤ, List, [], ◌∷◌, ◌++◌, length, map, take, drop, Option, Some, None}
use Rattle.std.specs.List.{filter}
use Rattle.std.specs.Ordering.{int_eq}
use Rattle.t7_base.specs.declared.public.Resting.{Resting}
use Rattle.t7_eobi.specs.declared.walks.Snap.{Snap}
use Rattle.t7_eobi.specs.declared.walks.Snap.TheVariants.{Product}
use Rattle.t7_feed.specs.Arrivals.{Terms}
use Rattle.t7_feed.specs.Cycles.{body_of, item_of}
use Rattle.t7_eobi.specs.Sizes.{snap_size}
use Rattle.t7_feed.specs.Sending.{entry_of, parts_of, snap_datagram_bytes}
use Rattle.t7_eobi.specs.Said.{ReadsSnap}
use Rattle.t7_greedy.specs.Cuts.{IsLongestRun}
use Rattle.t7_packets.specs.Packing.{room_in}

-- the ProductSummary, where it is to be told
abbrev pub product_of : Option ℕ → List Snap
product_of None = []
product_of (Some m) = Product m ∷ []

-- the orders of a security as items
abbrev pub items_in : ℤ → List Resting → List Snap
items_in security orders = map item_of (map entry_of (filter (λ order. int_eq order.security security) orders))

-- those of the security under way
abbrev pub items_under : Option ℤ → List Resting → List Snap
items_under None orders = []
items_under (Some security) orders = items_in security orders

-- the items that are left, where the number is to be told or not, a security is under way from a place of the orders on, and these securities are to come
abbrev pub left_of : Option ℕ → Option ℤ → List ℤ → List Resting → List Resting → List Snap
left_of number under securities rest orders = product_of number ++ (items_under under rest ++ body_of (parts_of securities orders))

-- what contracts see of a sender
pub record CycleState : Type 0 where
  -- what it writes by
  pub terms : Terms
  -- the datagrams of the cycle under way that are left, none where none is under way
  pub left : List (List Snap)
  -- how many messages were noted, and the list of orders that they make from the empty list
  pub noted : ℕ
  pub image : List Resting
  -- for how many more messages there is room
  pub spare : ℕ

-- no message was noted, and no cycle is under way
abbrev pub fresh_sender : Terms → ℕ → CycleState
fresh_sender terms spare = record { terms = terms; left = []; noted = 0; image = []; spare = spare }

-- a datagram of the longest run of the items that are left, and what it leaves
pub record Packs (terms : Terms) (number : ℕ) (old new : List Snap) (len : ℕ) (before out : List ℕ) : Type 0 where
  pub run : List Snap
  pub greedy : IsLongestRun (snap_size terms.layouts) (room_in terms.layouts terms.listing.datagram) old run new
  pub within : len ≤ terms.listing.datagram
  pub count : len ≡ length (snap_datagram_bytes terms number run)
  pub bytes : out ≡ snap_datagram_bytes terms number run ++ drop len before
  pub reads : ReadsSnap terms.layouts terms.listing.segment number run (take len out)

-- the next datagram of the cycle is written under a number, and is read again as what it was written for; what was noted stays, and there is no less room for more
pub record Sends (old new : CycleState) (number len : ℕ) (before out : List ℕ) : Type 0 where
  pub snaps : List Snap
  pub next : old.left ≡ snaps ∷ new.left
  pub goes_on : new ≡ record old { left = new.left; spare = new.spare }
  pub room : old.spare ≤ new.spare
  pub within : len ≤ old.terms.listing.datagram
  pub count : len ≡ length (snap_datagram_bytes old.terms number snaps)
  pub bytes : out ≡ snap_datagram_bytes old.terms number snaps ++ drop len before
  pub reads : ReadsSnap old.terms.layouts old.terms.listing.segment number snaps (take len out)
