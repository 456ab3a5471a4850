-- What is reached: the number up to which a member can follow the exchange with what came, item by item.
use Rattle.std.specs.Prelude.{◌≡◌, ℕ, ◌⊎◌, List, [], ◌∷◌, Option, Some, None}
use Rattle.t7_base.specs.Listing.{Listing}
use Rattle.t7_eobi.specs.declared.walks.Live.TheVariants.{Message, Beat}
use Rattle.t7_feed.specs.Arrivals.{Arrival, Told, Packet}
use Rattle.t7_feed.specs.Cycles.{Section}
use Rattle.t7_feed.specs.Whole.{Buffered, Farthest, Offers}

-- What live message k leaves reached, where this was reached before it: with none it stays none, and from n it goes on over the numbers that are held and k itself.
abbrev pub ReachesByMessage : Listing → List Arrival → ℕ → Option ℕ → Option ℕ → Type 0
ReachesByMessage listing came k None after = after ≡ None
ReachesByMessage listing came k (Some n) after = (j : ℕ) × (after ≡ Some j) × Farthest n j (λ i. Buffered listing came i ⊎ (i ≡ k))

-- What snapshot datagram i leaves reached: where a whole cycle above it is there with it, the cycle's number and those that are held behind it; and else what was reached before.
abbrev pub ReachesByPacket : Listing → List Arrival → ℕ → Option ℕ → Option ℕ → Type 0
ReachesByPacket listing came i before after =
    ((m j : ℕ) × (parts : List Section) × Offers listing came i before m parts × (after ≡ Some j) × Farthest m j (Buffered listing came))
    ⊎ ((after ≡ before) × ((m : ℕ) (parts : List Section) → Offers listing came i before m parts → ⊥))

-- This is reached, or nothing. In the beginning nothing is. A live message goes on from what was reached, over itself and the numbers that are held;
-- a snapshot datagram with which a whole cycle above it is there goes on from that cycle's number; all else leaves it.
abbrev pub Reaches : Listing → List Arrival → Option ℕ → Type 0
Reaches listing [] reached = reached ≡ None
Reaches listing (Told (Message k message) ∷ before) reached =
    (last : Option ℕ) × Reaches listing before last × ReachesByMessage listing (Told (Message k message) ∷ before) k last reached
Reaches listing (Told (Beat named) ∷ before) reached = Reaches listing before reached
Reaches listing (Packet i snaps ∷ before) reached =
    (last : Option ℕ) × Reaches listing before last × ReachesByPacket listing (Packet i snaps ∷ before) i last reached
