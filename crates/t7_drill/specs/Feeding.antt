-- What the member of the drill is given.
use Rattle.std.specs.Prelude.{◌≡◌, ℕ, ◌==◌, ◌↔◌, Bool, IsTrue, if◌then◌else◌, List, [], ◌∷◌, ◌++◌, Option, Some, None}
use Rattle.t7_base.specs.declared.ids.Feed.{Feed}
use Rattle.t7_base.specs.declared.ids.Feed.TheVariants.{LiveA}
use Rattle.t7_book.specs.Acts.{Act}
use Rattle.t7_eobi.specs.declared.faults.PacketFault.{PacketFault}
use Rattle.t7_eobi.specs.Faults.{fault_of}
use Rattle.t7_feed.specs.Arrivals.{Delivery, Terms, arrivals, channel_of, reading_of}
use Rattle.t7_feed.specs.Sending.{AreActs, Genuine}
use Rattle.t7_lines.specs.declared.tally.Tallies.{Tallies}
use Rattle.t7_lines.specs.Gap.{no_tallies, noted_on}
use Rattle.t7_member.specs.Fresh.{CountsFresh}
use Rattle.t7_member.specs.Keeping.{Image, Keeps}
use Rattle.t7_script.specs.Draws.{drawn, next_state}

-- bytes are delivered on a feed; the newest delivery stands first
abbrev pub delivered : Feed → List ℕ → List Delivery → List Delivery
delivered feed bytes came = record { feed = feed; bytes = bytes } ∷ came

-- datagrams are delivered on a feed, one after another
unfoldable pub all_delivered : Feed → List (List ℕ) → List Delivery → List Delivery
all_delivered feed [] came = came
all_delivered feed (bytes ∷ more) came = all_delivered feed more (delivered feed bytes came)

-- Between two datagrams: the generator, the B copies that are kept, and what was delivered.
pub record Feeding : Type 0 where
  pub draw : ℕ
  pub copies : List (List ℕ)
  pub came : List Delivery

-- a live datagram is delivered on line A, unless the first draw of four is 0
abbrev pub came_after : List ℕ → ℕ → List Delivery → List Delivery
came_after bytes x came = if drawn 4 x == 0 then came else delivered LiveA bytes came

-- its B copy is kept, unless the second draw of four is 0
abbrev pub copies_after : List ℕ → ℕ → List (List ℕ) → List (List ℕ)
copies_after bytes x copies = if drawn 4 (next_state x) == 0 then copies else copies ++ bytes ∷ []

-- a live datagram goes out
abbrev pub cast : List ℕ → Feeding → Feeding
cast bytes f = record {
  draw = next_state (next_state f.draw);
  copies = copies_after bytes f.draw f.copies;
  came = came_after bytes f.draw f.came;
}

-- live datagrams go out, one after another
unfoldable pub cast_all : List (List ℕ) → Feeding → Feeding
cast_all [] f = f
cast_all (bytes ∷ more) f = cast_all more (cast bytes f)

-- What a delivery adds to tallies, by its fault or none: a refused one nothing; an accepted one is counted on its feed, and counted as fresh exactly where it
-- gave something new.
abbrev pub Counts : Option PacketFault → (Tallies → Type 0) → Feed → Type 0 → Tallies → Type 0
Counts (Some fault) Earlier feed Fresh tallies = Earlier tallies
Counts None Earlier feed Fresh tallies = (earlier : Tallies) × (fresh : Bool) × Earlier earlier × (IsTrue fresh ↔ Fresh) ×
    (tallies ≡ noted_on earlier feed fresh)

-- the tallies of deliveries
abbrev pub Tallied : Terms → List Delivery → Tallies → Type 0
Tallied terms [] tallies = tallies ≡ no_tallies
Tallied terms (delivery ∷ before) tallies =
    Counts (fault_of (reading_of terms delivery.feed) delivery.bytes) (Tallied terms before) delivery.feed
    (CountsFresh terms (channel_of delivery.feed) delivery.bytes (arrivals terms before)) tallies

-- A member to which these were delivered: whatever an exchange did, it keeps what came; and where that is what the exchange sent, its tallies are those of
-- the deliveries.
pub record Heard (terms : Terms) (member : Image) (came : List Delivery) : Type 0 where
  pub keeps : (acts : List Act) → AreActs terms.listing acts → Keeps terms acts member (arrivals terms came)
  pub tallies : (acts : List Act) → AreActs terms.listing acts → Genuine terms acts came → Tallied terms came member.tallies

-- the generator, the copies and the member are as they are between two datagrams
pub record Fed (terms : Terms) (f : Feeding) (draw : ℕ) (copies : List (List ℕ)) (member : Image) : Type 0 where
  pub draw_is : draw ≡ f.draw
  pub copies_are : copies ≡ f.copies
  pub heard : Heard terms member f.came
