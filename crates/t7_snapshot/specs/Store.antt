-- What an assembler keeps.
use Rattle.std.specs.Prelude.{◌≡◌, ℕ, ◌+◌, ◌%◌, ◌<◌, ◌≤◌, max, List, [], length, get_or, Option, Some, None, option_map, Bool, nat_lt, ◌&&◌, eqb, if◌then◌else◌}
use Rattle.t7_base.specs.declared.ids.Channel.TheVariants as channel
use Rattle.t7_eobi.specs.declared.walks.Snap.{Snap}
use Rattle.t7_eobi.specs.Datagrams.{snaps_of}
use Rattle.t7_eobi.specs.Faults.{fault_of, Reading}
use Rattle.t7_feed.specs.Arrivals.{or_else, Terms}

-- what contracts see of an assembler: what it reads by, the highest number that came, and a ring with a number and a datagram at each place; number 0 is none
pub record Store : Type 0 where
  pub terms : Terms
  pub highest : ℕ
  pub ring : List (ℕ × List ℕ)

-- a place without a datagram
abbrev pub free : ℕ × List ℕ
free = (0, [])

-- a number is one that is kept: it is above the highest less the size of the ring
abbrev pub is_near : ℕ → ℕ → ℕ → Bool
is_near packets highest n = nat_lt 0 n && nat_lt highest (n + packets)

-- the datagram of a place, where it has this number
abbrev pub found : ℕ × List ℕ → ℕ → Option (List ℕ)
found slot n = if eqb slot.0 n then Some slot.1 else None

-- what a ring holds under number n: number n stands at place n modulo its size
abbrev pub held_in : ℕ → ℕ → List (ℕ × List ℕ) → ℕ → Option (List ℕ)
held_in packets highest ring n = if is_near packets highest n then found (get_or ring (n % packets) free) n else None

-- the datagram that is kept under number n
unfoldable pub held : Store → ℕ → Option (List ℕ)
held store n = held_in store.terms.listing.packets store.highest store.ring n

-- what snapshot datagrams are read by
abbrev pub reading : Terms → Reading
reading terms = record { layouts = terms.layouts; segment = terms.listing.segment; channel = channel.Snap }

-- bytes are a datagram of the snapshot channel
abbrev pub IsSnapDatagram : Terms → List ℕ → Type 0
IsSnapDatagram terms bytes = fault_of (reading terms) bytes ≡ None

-- the ring has the size of the product, no number in it is above the highest, and what is kept is a datagram of the snapshot channel
pub record IsRing (store : Store) : Type 0 where
  pub some : 0 < store.terms.listing.packets
  pub top : store.highest < 4294967295
  pub full : length store.ring ≡ store.terms.listing.packets
  pub below : (place : ℕ) → (get_or store.ring place free).0 ≤ store.highest
  pub sound : (place : ℕ) → 0 < (get_or store.ring place free).0 → IsSnapDatagram store.terms (get_or store.ring place free).1

-- a datagram of this number would be kept
abbrev pub IsNew : Store → ℕ → Type 0
IsNew store n = (store.highest < n + store.terms.listing.packets) × (held store n ≡ None)

-- datagram i, of these bytes, was taken: the numbers in the window keep what they had, and i has these bytes where it had none
pub record Takes (i : ℕ) (bytes : List ℕ) (old new : Store) : Type 0 where
  pub terms : new.terms ≡ old.terms
  pub highest : new.highest ≡ max i old.highest
  pub near : (j : ℕ) (is : List ℕ) → held new j ≡ Some is → new.highest < j + old.terms.listing.packets
  pub kept : (j : ℕ) → new.highest < j + old.terms.listing.packets → held new j ≡ or_else (held old j) (if eqb i j then Some bytes else None)

-- so many slots, and all are free
pub record AreFree (count : ℕ) (slots : List (ℕ × List ℕ)) : Type 0 where
  pub many : length slots ≡ count
  pub each : (place : ℕ) → get_or slots place free ≡ free

-- the items of the datagram that is kept under number n
abbrev pub seen : Store → ℕ → Option (List Snap)
seen store n = option_map (snaps_of store.terms.layouts) (held store n)
