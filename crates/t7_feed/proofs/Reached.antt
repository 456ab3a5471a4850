-- What is reached is one number, never falls, and is never below what a whole cycle supports.
use Rattle.std.proofs.Common.{◌≡◌, ℕ, ◌+◌, ◌≤◌, ◌⊎◌, inl, inr, ℤ, List, [], ◌∷◌, Option, Some, None, sym, ap, subst, ◌∙◌, arith}
use Rattle.t7_base.specs.Listing.{Listing}
use Rattle.t7_eobi.specs.declared.walks.Live.{Live}
use Rattle.t7_eobi.specs.declared.walks.Live.TheVariants.{Beat, Message}
use Rattle.t7_feed.proofs.Befores.{before_or_in, stand_begins, whole_before}
use Rattle.t7_feed.proofs.Growth.{EachMoment-map, PacketWindow-shrinks, Whole-live, compare, le_not, some_one}
use Rattle.t7_feed.proofs.OneCycle.{SameCycle, same_cycle}
use Rattle.t7_feed.specs.Arrivals.{Arrival, Delivery, EachMoment, EachPrefix, Packet, PacketWindow, Terms, Told, arrivals, channel_of, first, heard, reading_of, taken, taken_where, told}
use Rattle.t7_feed.specs.Cycles.{Run, Section}
use Rattle.t7_feed.specs.Reached.{Reaches, ReachesByMessage, ReachesByPacket}
use Rattle.t7_feed.specs.Report.{IsFrom, IsNeverBelow, ReachesAtMost}
use Rattle.t7_feed.specs.Whole.{Farthest, Buffered, IsBelow, Offers, Whole}
use Rattle.t7_base.specs.declared.ids.Channel.{Channel}
use Rattle.t7_base.specs.declared.ids.Channel.TheVariants as channel
use Rattle.t7_layout.specs.Layouts.{Layout}
use Rattle.t7_eobi.specs.declared.faults.PacketFault.{PacketFault}
use Rattle.t7_eobi.specs.Datagrams.{lives_of}
use Rattle.t7_eobi.specs.Faults.{fault_of}

pub farthest_one : {n j j' : ℕ} (Has : ℕ → Type 0) → Farthest n j Has → Farthest n j' Has → j ≡ j'
farthest_one {n} {j} {j'} Has f f' =
    let low = f.from in let low' = f'.from in
    elim (compare j j') [
      | inl less ↦ absurd (f.stop (f'.each (j + 1) (omega arith) (omega arith)))
      | inr (inl more) ↦ absurd (f'.stop (f.each (j' + 1) (omega arith) (omega arith)))
      | inr (inr same) ↦ same
    ]

-- two offers of one datagram are of one cycle
pub offers_one : {listing : Listing} {came : List Arrival} {i m m' : ℕ} {before before' : Option ℕ} {parts parts' : List Section} →
    Offers listing came i before m parts → Offers listing came i before' m' parts' → SameCycle m m' parts parts'
offers_one {listing} {came} {i} o o' = same_cycle (first came) i o.whole.run o'.whole.run o.from o.upto o'.from o'.upto

pub by_message_one : (listing : Listing) (came : List Arrival) (k : ℕ) (before after after' : Option ℕ) →
    ReachesByMessage listing came k before after → ReachesByMessage listing came k before after' → after ≡ after'
by_message_one listing came k None after after' r r' = r ∙ sym r'
by_message_one listing came k (Some n) after after' r r' =
    let same = farthest_one (λ i. Buffered listing came i ⊎ (i ≡ k)) r.2 r'.2 in r.1 ∙ ap (λ j. Some j) same ∙ sym r'.1

pub by_packet_one : (listing : Listing) (came : List Arrival) (i : ℕ) (before after after' : Option ℕ) →
    ReachesByPacket listing came i before after → ReachesByPacket listing came i before after' → after ≡ after'
by_packet_one listing came i before after after' (inl r) (inl r') =
    let one = offers_one r.3 r'.3 in
    let f : Farthest r'.0 r.1 (Buffered listing came) = rw (← one.number) r.5 in
    let same = farthest_one (Buffered listing came) f r'.5 in r.4 ∙ ap (λ j. Some j) same ∙ sym r'.4
by_packet_one listing came i before after after' (inl r) (inr r') = absurd (r'.1 r.0 r.2 r.3)
by_packet_one listing came i before after after' (inr r) (inl r') = absurd (r.1 r'.0 r'.2 r'.3)
by_packet_one listing came i before after after' (inr r) (inr r') = r.0 ∙ sym r'.0

-- one thing is reached
pub reaches_one : (listing : Listing) (came : List Arrival) (r r' : Option ℕ) → Reaches listing came r → Reaches listing came r' → r ≡ r'
reaches_one listing [] r r' h h' = h ∙ sym h'
reaches_one listing (Told (Message k said) ∷ before) r r' h h' =
    let same : h'.0 ≡ h.0 = reaches_one listing before h'.0 h.0 h'.1 h.1 in
    let later : ReachesByMessage listing (Told (Message k said) ∷ before) k h.0 r' = subst (λ x. ReachesByMessage listing (Told (Message k said) ∷ before) k x r') same h'.2 in
    by_message_one listing (Told (Message k said) ∷ before) k h.0 r r' h.2 later
reaches_one listing (Told (Beat last) ∷ before) r r' h h' = reaches_one listing before r r' h h'
reaches_one listing (Packet i snaps ∷ before) r r' h h' =
    let same : h'.0 ≡ h.0 = reaches_one listing before h'.0 h.0 h'.1 h.1 in
    let later : ReachesByPacket listing (Packet i snaps ∷ before) i h.0 r' = subst (λ x. ReachesByPacket listing (Packet i snaps ∷ before) i x r') same h'.2 in
    by_packet_one listing (Packet i snaps ∷ before) i h.0 r r' h.2 later

-- it never falls
pub by_message_rises : (listing : Listing) (came : List Arrival) (k : ℕ) (before after : Option ℕ) (m : ℕ) →
    ReachesByMessage listing came k before after → IsFrom m before → IsFrom m after
by_message_rises listing came k None after m r from = absurd from
by_message_rises listing came k (Some n) after m r from = let up = r.2.from in rw r.1 (omega arith)

pub below_from : (before : Option ℕ) (m n : ℕ) → IsBelow before n → IsFrom m before → m ≤ n
below_from None m n below from = absurd from
below_from (Some b) m n below from = omega arith

pub by_packet_rises : (listing : Listing) (came : List Arrival) (i : ℕ) (before after : Option ℕ) (m : ℕ) →
    ReachesByPacket listing came i before after → IsFrom m before → IsFrom m after
by_packet_rises listing came i before after m (inl r) from =
    let low = below_from before m r.0 r.3.above from in let up = r.5.from in rw r.4 (omega arith)
by_packet_rises listing came i before after m (inr r) from = rw r.0 from

pub nothing_whole : {securities : List ℤ} {m p q : ℕ} {parts : List Section} → Run securities (first []) m p q parts → ⊥
nothing_whole {securities} {m} {p} r = (let s = stand_begins (first []) p r.datagrams r.spells.begins r.stand in cc s.1)

-- the number after it isn't held
pub message_stops : (listing : Listing) (came : List Arrival) (k n : ℕ) (before : Option ℕ) → ReachesByMessage listing came k before (Some n) → Buffered listing came (n + 1) → ⊥
message_stops listing came k n None r held = cc r
message_stops listing came k n (Some b) r held =
    let same : n ≡ r.0 = some_one r.1 in
    r.2.stop (inl (rw same at held))

pub reaches_stops : (listing : Listing) (came : List Arrival) (n : ℕ) → Reaches listing came (Some n) → Buffered listing came (n + 1) → ⊥
reaches_stops listing [] n h held = held.0
reaches_stops listing (Told (Message k said) ∷ before) n h held = message_stops listing (Told (Message k said) ∷ before) k n h.0 h.2 held
reaches_stops listing (Told (Beat last) ∷ before) n h held = reaches_stops listing before n h held
reaches_stops listing (Packet i snaps ∷ before) n (last, h, inl r) held =
    let same : n ≡ r.1 = some_one r.4 in
    r.5.stop (rw same at held)
reaches_stops listing (Packet i snaps ∷ before) n (last, h, inr r) held =
    reaches_stops listing before n (rw r.0 h) held

-- it covers each whole cycle near
pub offered : (listing : Listing) (came : List Arrival) (i : ℕ) (before after : Option ℕ) (m p q : ℕ) (parts : List Section) →
    ReachesByPacket listing came i before after → Whole listing came m p q parts → PacketWindow listing came p → p ≤ i → i ≤ q → IsFrom m after
offered listing came i before after m p q parts (inl r) w near from upto =
    let o = r.3 in
    let same = same_cycle (first came) i w.run o.whole.run from upto o.from o.upto in
    let up = r.5.from in
    let e = same.number in
    rw r.4 (omega arith)
offered listing came i None after m p q parts (inr r) w near from upto =
    absurd (r.1 m parts (record { p = p; q = q; whole = w; near = near; from = from; upto = upto; above = tt }))
offered listing came i (Some b) after m p q parts (inr r) w near from upto =
    let low : m ≤ b = le_not b m (λ above. r.1 m parts (record { p = p; q = q; whole = w; near = near; from = from; upto = upto; above = above })) in
    rw r.0 low

pub reaches_covers : (listing : Listing) (came : List Arrival) (r : Option ℕ) (m p q : ℕ) (parts : List Section) →
    Reaches listing came r → Whole listing came m p q parts → PacketWindow listing came p → IsFrom m r
reaches_covers listing [] r m p q parts h w near = absurd (nothing_whole w.run)
reaches_covers listing (Told (Message k said) ∷ before) r m p q parts h w near =
    by_message_rises listing (Told (Message k said) ∷ before) k h.0 r m h.2 (reaches_covers listing before h.0 m p q parts h.1 (Whole-live w) near)
reaches_covers listing (Told (Beat last) ∷ before) r m p q parts h w near = reaches_covers listing before r m p q parts h (Whole-live w) near
reaches_covers listing (Packet i snaps ∷ before) r m p q parts h w near =
    elim (before_or_in p q i) [
      | inl out ↦ by_packet_rises listing (Packet i snaps ∷ before) i h.0 r m h.2 (reaches_covers listing before h.0 m p q parts h.1 (whole_before w out) (PacketWindow-shrinks listing (Packet i snaps) before p near))
      | inr within ↦ offered listing (Packet i snaps ∷ before) i h.0 r m p q parts h.2 w near within.0 within.1
    ]

-- what is reached is never below what a whole cycle and the messages behind it give
pub reaches_enough : (listing : Listing) (came : List Arrival) (r : Option ℕ) → Reaches listing came r → IsNeverBelow listing r came
reaches_enough listing came None h m p q j parts w near low each window = reaches_covers listing came None m p q parts h w near
reaches_enough listing came (Some n) h m p q j parts w near low each window =
    let from : m ≤ n = reaches_covers listing came (Some n) m p q parts h w near in
    le_not n j (λ less.
    let close = window (omega arith) in
    let came_next = each (n + 1) (omega arith) (omega arith) in
    reaches_stops listing came n h (came_next, omega arith))

-- and of all moments
pub from_map : (m : ℕ) → (number : Option ℕ) → (later : Option ℕ) → ((k : ℕ) → IsFrom k number → IsFrom k later) → IsFrom m number → IsFrom m later
from_map m number later f h = f m h

pub never_rises : (listing : Listing) (number later : Option ℕ) (came : List Arrival) → ((k : ℕ) → IsFrom k number → IsFrom k later) →
    IsNeverBelow listing number came → IsNeverBelow listing later came
never_rises listing number later came up h m p q j parts w near low each window = up j (h m p q j parts w near low each window)

-- at each moment, with what is reached in the end
abbrev pub IsReachedBy : Listing → Option ℕ → List Arrival → Type 0
IsReachedBy listing number came = ReachesAtMost listing number came × IsNeverBelow listing number came

pub reached_rises : (listing : Listing) (number later : Option ℕ) (came : List Arrival) → ((k : ℕ) → IsFrom k number → IsFrom k later) → IsReachedBy listing number came → IsReachedBy listing later came
reached_rises listing number later came up h = (λ r at. up r (h.0 r at), never_rises listing number later came up h.1)

pub reached_now : (listing : Listing) (came : List Arrival) (r : Option ℕ) → Reaches listing came r → IsReachedBy listing r came
reached_now listing came r h = (λ n at. (let same = reaches_one listing came r (Some n) h at in rw same (omega arith)), reaches_enough listing came r h)

pub reached_always : (listing : Listing) (came : List Arrival) (r : Option ℕ) → Reaches listing came r → EachMoment (IsReachedBy listing r) came
reached_always listing [] r h = reached_now listing [] r h
reached_always listing (Told (Message k said) ∷ before) r h = (
  reached_now listing (Told (Message k said) ∷ before) r h,
  EachMoment-map (IsReachedBy listing h.0) (IsReachedBy listing r) before
      (λ some at. reached_rises listing h.0 r some (λ m from. by_message_rises listing (Told (Message k said) ∷ before) k h.0 r m h.2 from) at)
      (reached_always listing before h.0 h.1),
)
reached_always listing (Told (Beat last) ∷ before) r h =
    (reached_now listing (Told (Beat last) ∷ before) r h, reached_always listing before r h)
reached_always listing (Packet i snaps ∷ before) r h = (
  reached_now listing (Packet i snaps ∷ before) r h,
  EachMoment-map (IsReachedBy listing h.0) (IsReachedBy listing r) before
      (λ some at. reached_rises listing h.0 r some (λ m from. by_packet_rises listing (Packet i snaps ∷ before) i h.0 r m h.2 from) at)
      (reached_always listing before h.0 h.1),
)

-- what holds at each moment holds of each prefix
pub told_moment : (P : List Arrival → Type 0) (lives : List Live) (before : List Arrival) → EachMoment P (told lives before) → EachMoment P before
told_moment P [] before h = h
told_moment P (live ∷ lives) before h = (told_moment P lives (Told live ∷ before) h).1

pub taken_moment : (P : List Arrival → Type 0) (layouts : List Layout) (channel : Channel) (bytes : List ℕ) (before : List Arrival) → EachMoment P (taken layouts channel bytes before) → EachMoment P before
taken_moment P layouts channel.Live bytes before h = told_moment P (lives_of layouts bytes) before h
taken_moment P layouts channel.Snap bytes before h = h.1

pub where_moment : (P : List Arrival → Type 0) (fault : Option PacketFault) (layouts : List Layout) (channel : Channel) (bytes : List ℕ) (before : List Arrival)
    → EachMoment P (taken_where fault layouts channel bytes before) → EachMoment P before
where_moment P None layouts channel bytes before h = taken_moment P layouts channel bytes before h
where_moment P (Some fault) layouts channel bytes before h = h

pub heard_moment : (P : List Arrival → Type 0) (terms : Terms) (delivery : Delivery) (before : List Arrival) → EachMoment P (heard terms delivery before) → EachMoment P before
heard_moment P terms delivery before h = where_moment P (fault_of (reading_of terms delivery.feed) delivery.bytes) terms.layouts (channel_of delivery.feed) delivery.bytes before h

pub moment_now : (P : List Arrival → Type 0) (came : List Arrival) → EachMoment P came → P came
moment_now P [] h = h
moment_now P (arrival ∷ before) h = h.0

pub each_prefix : (terms : Terms) (P : List Arrival → Type 0) (dl : List Delivery) → EachMoment P (arrivals terms dl) → EachPrefix terms P dl
each_prefix terms P [] h = h
each_prefix terms P (delivery ∷ dl) h = (moment_now P (arrivals terms (delivery ∷ dl)) h, each_prefix terms P dl (heard_moment P terms delivery (arrivals terms dl) h))
