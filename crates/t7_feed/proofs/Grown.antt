-- What stays as more is delivered.
use Rattle.std.proofs.Common.{ℕ, ◌≤◌, List, [], ◌∷◌, Option, Some, None, arith}
use Rattle.t7_base.specs.Listing.{Listing}
use Rattle.t7_base.specs.declared.ids.Channel.{Channel}
use Rattle.t7_base.specs.declared.ids.Channel.TheVariants as channel
use Rattle.t7_eobi.specs.declared.faults.PacketFault.{PacketFault}
use Rattle.t7_eobi.specs.declared.walks.Live.{Live}
use Rattle.t7_eobi.specs.declared.walks.Live.TheVariants.{Beat, Message}
use Rattle.t7_eobi.specs.Datagrams.{lives_of, packet_number, snaps_of}
use Rattle.t7_eobi.specs.Faults.{fault_of}
use Rattle.t7_layout.specs.Layouts.{Layout}
use Rattle.t7_feed.specs.Arrivals.{Arrival, Delivery, Packet, Terms, Told, arrivals, channel_of, highest, highest_packet, known, reading_of, taken, taken_where, told}
use Rattle.t7_feed.specs.Growing.{Grows}
use Rattle.t7_feed.specs.Reached.{Reaches}
use Rattle.t7_feed.specs.Report.{IsFrom}
use Rattle.t7_feed.proofs.Growth.{Came-grows, CameAs-grows, PacketWindow-shrinks, Supported-grows, Whole-grows, Window-shrinks, first-grows}
use Rattle.t7_feed.proofs.Reached.{by_message_rises, by_packet_rises, reaches_one}

pub highest_grows : (arrival : Arrival) (before : List Arrival) → highest before ≤ highest (arrival ∷ before)
highest_grows (Told (Message number said)) before = omega arith
highest_grows (Told (Beat last)) before = omega arith
highest_grows (Packet number snaps) before = omega arith

pub highest_packet_grows : (arrival : Arrival) (before : List Arrival) → highest_packet before ≤ highest_packet (arrival ∷ before)
highest_packet_grows (Told live) before = omega arith
highest_packet_grows (Packet number snaps) before = omega arith

pub known_grows : (arrival : Arrival) (before : List Arrival) → known before ≤ known (arrival ∷ before)
known_grows (Told (Message number said)) before = omega arith
known_grows (Told (Beat last)) before = omega arith
known_grows (Packet number snaps) before = omega arith

-- what is reached before the last arrival, and that it doesn't fall with it
pub record Advance (listing : Listing) (before : List Arrival) (after : Option ℕ) : Type 0 where
  pub last : Option ℕ
  pub reached : Reaches listing before last
  pub rises : (n : ℕ) → IsFrom n last → IsFrom n after

pub step_of : (listing : Listing) (arrival : Arrival) (before : List Arrival) (after : Option ℕ) → Reaches listing (arrival ∷ before) after → Advance listing before after
step_of listing (Told (Message k said)) before after h = record { last = h.0; reached = h.1; rises = λ n from. by_message_rises listing (Told (Message k said) ∷ before) k h.0 after n h.2 from }
step_of listing (Told (Beat named)) before after h = record { last = after; reached = h; rises = λ n from. from }
step_of listing (Packet i snaps) before after h = record { last = h.0; reached = h.1; rises = λ n from. by_packet_rises listing (Packet i snaps ∷ before) i h.0 after n h.2 from }

pub grows_none : (listing : Listing) (came : List Arrival) → Grows listing came came
grows_none listing came = record {
  came = λ k h. h;
  same = λ k said h. h;
  highest = omega arith;
  highest_packet = omega arith;
  known = omega arith;
  first = λ i snaps h. h;
  window = λ k h. h;
  packet_window = λ p h. h;
  whole = λ m p q parts h. h;
  supported = λ n h. h;
  reached = λ n after h later. (let same = reaches_one listing came after (Some n) later h in rw same (omega arith));
}

-- one arrival more
pub grows_more : (listing : Listing) (came mid : List Arrival) (arrival : Arrival) → Grows listing came mid → Grows listing came (arrival ∷ mid)
grows_more listing came mid arrival g = record {
  came = λ k h. Came-grows arrival mid k (g.came k h);
  same = λ k said h. CameAs-grows arrival mid k said (g.same k said h);
  highest = (let a = g.highest in let b = highest_grows arrival mid in omega arith);
  highest_packet = (let a = g.highest_packet in let b = highest_packet_grows arrival mid in omega arith);
  known = (let a = g.known in let b = known_grows arrival mid in omega arith);
  first = λ i snaps h. first-grows arrival mid i snaps (g.first i snaps h);
  window = λ k h. g.window k (Window-shrinks listing arrival mid k h);
  packet_window = λ p h. g.packet_window p (PacketWindow-shrinks listing arrival mid p h);
  whole = λ m p q parts h. Whole-grows arrival (g.whole m p q parts h);
  supported = λ n h. Supported-grows arrival (g.supported n h);
  reached = λ n after h later. (let step = step_of listing arrival mid after later in step.rises n (g.reached n step.last h step.reached));
}

pub grows_told : (listing : Listing) (came : List Arrival) (lives : List Live) (mid : List Arrival) → Grows listing came mid → Grows listing came (told lives mid)
grows_told listing came [] mid g = g
grows_told listing came (live ∷ lives) mid g = grows_told listing came lives (Told live ∷ mid) (grows_more listing came mid (Told live) g)

pub grows_taken : (listing : Listing) (layouts : List Layout) (channel : Channel) (bytes : List ℕ) (came : List Arrival) → Grows listing came (taken layouts channel bytes came)
grows_taken listing layouts channel.Live bytes came = grows_told listing came (lives_of layouts bytes) came (grows_none listing came)
grows_taken listing layouts channel.Snap bytes came = grows_more listing came came (Packet (packet_number layouts bytes) (snaps_of layouts bytes)) (grows_none listing came)

pub grows_where : (listing : Listing) (fault : Option PacketFault) (layouts : List Layout) (channel : Channel) (bytes : List ℕ) (came : List Arrival) → Grows listing came (taken_where fault layouts channel bytes came)
grows_where listing None layouts channel bytes came = grows_taken listing layouts channel bytes came
grows_where listing (Some fault) layouts channel bytes came = grows_none listing came

-- one delivery more
pub grows_heard : (terms : Terms) (delivery : Delivery) (dl : List Delivery) → Grows terms.listing (arrivals terms dl) (arrivals terms (delivery ∷ dl))
grows_heard terms delivery dl = grows_where terms.listing (fault_of (reading_of terms delivery.feed) delivery.bytes) terms.layouts (channel_of delivery.feed) delivery.bytes (arrivals terms dl)
