-- Messages that say an item: what a reader of datagrams finds in them.
use Rattle.std.specs.Prelude.{ℕ, ◌≤◌, ◌≡◌, List, [], ◌∷◌, Some, None, length, nat_abs}
use Rattle.t7_layout.specs.declared.roles.Role.TheVariants as role
use Rattle.t7_layout.specs.declared.roles.FieldName.TheVariants as name
use Rattle.t7_layout.specs.Layouts.{Layout}
use Rattle.t7_fields.specs.Messages.{value}
use Rattle.t7_base.specs.declared.ids.Channel.TheVariants as channel
use Rattle.t7_eobi.specs.declared.walks.Live.{Live}
use Rattle.t7_eobi.specs.declared.walks.Snap.{Snap}
use Rattle.t7_eobi.specs.Datagrams.{as_role, live_of, lives_of, packet_number, snap_of, snaps_of}
use Rattle.t7_eobi.specs.Faults.{fault_of}
use Rattle.t7_eobi.specs.Grammar.{IsHeader, IsOther}

-- a header of a product with this number
pub record SaysHeader (layouts : List Layout) (segment number : ℕ) (message : List ℕ) : Type 0 where
  pub header : IsHeader layouts segment message
  pub says : nat_abs (value (as_role layouts role.PacketHeader message) name.ApplSeqNum) ≡ number
  pub short : length message ≤ 128

-- a message that says an item on the live channel
pub record SaysLive (layouts : List Layout) (item : Live) (message : List ℕ) : Type 0 where
  pub other : IsOther layouts channel.Live message
  pub says : live_of layouts message ≡ Some item
  pub short : length message ≤ 128

-- a message that says an item on the snapshot channel
pub record SaysSnap (layouts : List Layout) (item : Snap) (message : List ℕ) : Type 0 where
  pub other : IsOther layouts channel.Snap message
  pub says : snap_of layouts message ≡ Some item
  pub short : length message ≤ 128

-- messages that say these items, one each
abbrev pub SayLives : List Layout → List Live → List (List ℕ) → Type 0
SayLives layouts [] [] = Unit {0}
SayLives layouts (item ∷ items) (message ∷ messages) = SaysLive layouts item message × SayLives layouts items messages
SayLives layouts items messages = ⊥

-- each message says its item of the snapshot channel
abbrev pub SaySnaps : List Layout → List Snap → List (List ℕ) → Type 0
SaySnaps layouts [] [] = Unit {0}
SaySnaps layouts (item ∷ items) (message ∷ messages) = SaysSnap layouts item message × SaySnaps layouts items messages
SaySnaps layouts items messages = ⊥

-- bytes are read as a datagram of the live channel with this number and these items
pub record ReadsLive (layouts : List Layout) (segment count : ℕ) (items : List Live) (bytes : List ℕ) : Type 0 where
  pub faultless : fault_of (record { layouts = layouts; segment = segment; channel = channel.Live }) bytes ≡ None
  pub numbered : packet_number layouts bytes ≡ count
  pub says : lives_of layouts bytes ≡ items

-- bytes are read as a datagram of the snapshot channel with this number and these items
pub record ReadsSnap (layouts : List Layout) (segment count : ℕ) (items : List Snap) (bytes : List ℕ) : Type 0 where
  pub faultless : fault_of (record { layouts = layouts; segment = segment; channel = channel.Snap }) bytes ≡ None
  pub numbered : packet_number layouts bytes ≡ count
  pub says : snaps_of layouts bytes ≡ items
