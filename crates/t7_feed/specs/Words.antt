-- What came, in the words of deliveries alone: what counts is what an accepted delivery says.
use Rattle.std.specs.Prelude.{◌≡◌, ◌↔◌, ℕ, ◌+◌, ◌<◌, ◌≤◌, ◌⊎◌, List, [], ◌∷◌, ◌++◌, Some, None}
use Rattle.t7_base.specs.declared.ids.Channel.{Channel}
use Rattle.t7_base.specs.declared.ids.Channel.TheVariants as channel
use Rattle.t7_base.specs.declared.public.Public.{Public}
use Rattle.t7_eobi.specs.declared.walks.Live.{Live}
use Rattle.t7_eobi.specs.declared.walks.Live.TheVariants.{Message, Beat}
use Rattle.t7_eobi.specs.declared.walks.Snap.{Snap}
use Rattle.t7_eobi.specs.declared.walks.Snap.TheVariants as snap
use Rattle.t7_eobi.specs.Datagrams.{lives_of, packet_number, snaps_of}
use Rattle.t7_eobi.specs.Faults.{fault_of}
use Rattle.t7_feed.specs.Arrivals.{Delivery, Terms, arrivals, Came, channel_of, first, known, PacketWindow, reading_of, Window}

-- P holds of some element
abbrev pub SomeOf : {A : Type 0} → (A → Type 0) → List A → Type 0
SomeOf P [] = ⊥
SomeOf P (x ∷ xs) = P x ⊎ SomeOf P xs

-- a delivery of a channel that is accepted
abbrev pub IsAccepted : Terms → Channel → Delivery → Type 0
IsAccepted terms channel delivery = (channel_of delivery.feed ≡ channel) × (fault_of (reading_of terms delivery.feed) delivery.bytes ≡ None)

-- an accepted live delivery has such an item
abbrev pub SaysLive : Terms → (Live → Type 0) → Delivery → Type 0
SaysLive terms P delivery = IsAccepted terms channel.Live delivery × SomeOf P (lives_of terms.layouts delivery.bytes)

-- an accepted snapshot delivery has such an item
abbrev pub SaysSnap : Terms → (Snap → Type 0) → Delivery → Type 0
SaysSnap terms P delivery = IsAccepted terms channel.Snap delivery × SomeOf P (snaps_of terms.layouts delivery.bytes)

-- an accepted snapshot delivery has this number
abbrev pub IsNumbered : Terms → ℕ → Delivery → Type 0
IsNumbered terms i delivery = IsAccepted terms channel.Snap delivery × (packet_number terms.layouts delivery.bytes ≡ i)

-- an accepted live delivery carries message k
abbrev pub Carries : Terms → ℕ → Delivery → Type 0
Carries terms k delivery = SaysLive terms (λ live. (said : Public) × (live ≡ Message k said)) delivery

-- an accepted delivery names n as a live message, in a Heartbeat of the live channel, or in a ProductSummary of the snapshot channel
abbrev pub Names : Terms → ℕ → Delivery → Type 0
Names terms n delivery = Carries terms n delivery ⊎ (SaysLive terms (λ live. live ≡ Beat n) delivery ⊎ SaysSnap terms (λ item. item ≡ snap.Product n) delivery)

-- a message came exactly where an accepted live delivery carries it
abbrev pub CameIsCarried : Type 0
CameIsCarried = (terms : Terms) (dl : List Delivery) (k : ℕ) → Came (arrivals terms dl) k ↔ SomeOf (Carries terms k) dl

-- a number is in the window exactly where no accepted live delivery carries a message of that number plus W or more
abbrev pub WindowIsNoneAbove : Type 0
WindowIsNoneAbove = (terms : Terms) (dl : List Delivery) (k : ℕ) → 0 < terms.listing.window
    → Window terms.listing (arrivals terms dl) k ↔ ((j : ℕ) → SomeOf (Carries terms j) dl → j < k + terms.listing.window)

-- a number is in the packet window exactly where no accepted snapshot delivery has that number plus P or more
abbrev pub PacketWindowIsNoneAbove : Type 0
PacketWindowIsNoneAbove = (terms : Terms) (dl : List Delivery) (p : ℕ) → 0 < terms.listing.packets
    → PacketWindow terms.listing (arrivals terms dl) p ↔ ((i : ℕ) → SomeOf (IsNumbered terms i) dl → i < p + terms.listing.packets)

-- n is the greatest number that an accepted delivery names, and 0 where none does
pub record IsGreatest (terms : Terms) (dl : List Delivery) (n : ℕ) : Type 0 where
  pub named : (n ≡ 0) ⊎ SomeOf (Names terms n) dl
  pub most : (k : ℕ) → SomeOf (Names terms k) dl → k ≤ n

-- what is known is the greatest number that an accepted delivery names, and 0 where none does
abbrev pub KnownIsGreatest : Type 0
KnownIsGreatest = (terms : Terms) (dl : List Delivery) → IsGreatest terms dl (known (arrivals terms dl))

-- some delivery has this number and these items, and none before it has its number
pub record IsFirst (terms : Terms) (dl : List Delivery) (i : ℕ) (snaps : List Snap) : Type 0 where
  pub later : List Delivery
  pub delivery : Delivery
  pub before : List Delivery
  pub split : dl ≡ later ++ delivery ∷ before
  pub numbered : IsNumbered terms i delivery
  pub items : snaps_of terms.layouts delivery.bytes ≡ snaps
  pub none : SomeOf (IsNumbered terms i) before → ⊥

-- the first datagram of a number is the first accepted snapshot delivery with that number
abbrev pub FirstIsFirst : Type 0
FirstIsFirst = (terms : Terms) (dl : List Delivery) (i : ℕ) (snaps : List Snap) → (first (arrivals terms dl) i ≡ Some snaps) ↔ IsFirst terms dl i snaps
