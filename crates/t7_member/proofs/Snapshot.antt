-- A snapshot datagram: what is kept, what is adopted, and what is reached.
use Rattle.std.proofs.Common.{◌≡◌, ℕ, ◌+◌, ◌<◌, ◌≤◌, ℤ, max, inl, inr, List, [], ◌∷◌, Option, Some, None, refl, sym, ap, subst, ◌∙◌, arith, eqb, if◌then◌else◌}
use Rattle.t7_base.specs.declared.public.Resting.{Resting}
use Rattle.t7_eobi.specs.declared.walks.Snap.{Snap}
use Rattle.t7_feed.proofs.Befores.{before_or_in, stand_begins, whole_before}
use Rattle.t7_feed.proofs.Growth.{EachMoment-now, PacketWindow-shrinks, Run-map, Supported-grows, Supported-whole, le_not, lt_not, some_one}
use Rattle.t7_feed.proofs.OneCycle.{same_cycle}
use Rattle.t7_feed.proofs.Sent.{Laws}
use Rattle.t7_book.specs.Acts.{Act, commands_of}
use Rattle.t7_feed.specs.Arrivals.{Arrival, Packet, PacketWindow, Terms, first, greatest_named, or_else}
use Rattle.t7_feed.specs.Cycles.{Finds, Section, orders_of}
use Rattle.t7_feed.specs.Fitting.{staged}
use Rattle.t7_feed.specs.Reached.{ReachesByPacket}
use Rattle.t7_feed.specs.Sending.{AreSent, book_at}
use Rattle.t7_feed.specs.Whole.{Buffered, IsBelow, Offers, Whole}
use Rattle.t7_member.proofs.Hear.{chain_holds, chain_reaches}
use Rattle.t7_member.proofs.Moves.{CoversMore, cycles_stay}
use Rattle.t7_member.specs.Keeping.{packets_of, Covers, CoversCycles, Fits, Holds, Image, Keeps, Mirrors, Rests, floor, floor_of}
use Rattle.t7_member.specs.declared.standing.Refusal.{Refusal}
use Rattle.t7_member.specs.Steps.{Receives, finds_none, ignores, adopts, adopted, received}
use Rattle.t7_member.specs.Taking.{Answers, Assembles, IsUpTo}

-- what was taken, once i was: what stands near is the first of its number
pub record Packed (terms : Terms) (packets : (ℕ → Option (List Snap))) (came : List Arrival) : Type 0 where
  pub packets_first : (j : ℕ) → PacketWindow terms.listing came j → packets j ≡ first came j
  pub near : (j : ℕ) (is : List Snap) → packets j ≡ Some is → PacketWindow terms.listing came j

pub packed : {terms : Terms} {old : Image} {came : List Arrival} (i : ℕ) (snaps : List Snap) (packets : (ℕ → Option (List Snap))) (answer : Option (ℕ × List Section)) →
    Assembles terms.listing (max i old.highest_packet) i snaps (packets_of old) packets answer → Holds terms old came → Packed terms packets (Packet i snaps ∷ came)
packed {terms} {old} {came} i snaps packets answer a h =
    let top = h.highest_packet in
    record {
      packets_first = λ j near.
          let close : max i old.highest_packet < j + terms.listing.packets = omega arith in
          let before = h.packets j (PacketWindow-shrinks terms.listing (Packet i snaps) came j near) in
          a.kept j close ∙ ap (λ found. or_else found (if eqb i j then Some snaps else None)) before;
      near = λ j is at. let close = a.near j is at in omega arith;
    }

-- a run of what is kept is a whole cycle near, and the other way round
pub finds_whole : {terms : Terms} {packets : (ℕ → Option (List Snap))} {came : List Arrival} {i m : ℕ} {parts : List Section} →
    Packed terms packets came → (f : Finds terms.listing.securities packets i m parts) → Whole terms.listing came m f.p f.q parts
finds_whole {terms} {packets} {came} k f = record { run = Run-map packets (first came) (λ j is from upto at. sym (k.packets_first j (k.near j is at)) ∙ at) f.run }

pub finds_near : {terms : Terms} {packets : (ℕ → Option (List Snap))} {came : List Arrival} {i m : ℕ} {parts : List Section} →
    Packed terms packets came → (f : Finds terms.listing.securities packets i m parts) → PacketWindow terms.listing came f.p
finds_near {terms} {packets} k f =
    let found = stand_begins packets f.p f.run.datagrams f.run.spells.begins f.run.stand in
    k.near f.p found.0 found.1

pub whole_finds : {terms : Terms} {packets : (ℕ → Option (List Snap))} {came : List Arrival} {i m p q : ℕ} {parts : List Section} →
    Packed terms packets came → Whole terms.listing came m p q parts → PacketWindow terms.listing came p → p ≤ i → i ≤ q → Finds terms.listing.securities packets i m parts
whole_finds {terms} {packets} {came} {i} {m} {p} {q} k w near from upto = record {
  p = p;
  q = q;
  from = from;
  upto = upto;
  run = Run-map (first came) packets (λ j is p_le j_le at. let close : PacketWindow terms.listing came j = omega arith in k.packets_first j close ∙ at) w.run;
}

-- what an answer covers, all cycles near that have this datagram do
abbrev pub IsCovered : List ℤ → Image → Option (ℕ × List Section) → Type 0
IsCovered securities member None = Unit {0}
IsCovered securities member (Some whole) = Fits securities whole.1 → Covers member.base member.refused whole.0

pub covers_found : (terms : Terms) (packets : (ℕ → Option (List Snap))) (i : ℕ) (member : Image) (answer : Option (ℕ × List Section)) →
    Answers terms.listing.securities packets i answer → IsCovered terms.listing.securities member answer → (m : ℕ) (parts : List Section) → Finds terms.listing.securities packets i m parts → Fits terms.listing.securities parts → Covers member.base member.refused m
covers_found terms packets i member None answers covered m parts found fits = absurd (answers m parts found)
covers_found terms packets i member (Some whole) answers covered m parts found fits =
    let same = same_cycle packets i found.run answers.run found.from found.upto answers.from answers.upto in
    let fits_whole : Fits terms.listing.securities whole.1 = rw same.sections at fits in
    rw same.number (covered fits_whole)

pub covers_now : {terms : Terms} {came : List Arrival} (old new : Image) (i : ℕ) (snaps : List Snap) (packets : (ℕ → Option (List Snap))) (answer : Option (ℕ × List Section)) →
    Packed terms packets (Packet i snaps ∷ came) → Answers terms.listing.securities packets i answer → IsCovered terms.listing.securities new answer → CoversMore old new → CoversCycles terms.listing old came →
    CoversCycles terms.listing new (Packet i snaps ∷ came)
covers_now {terms} {came} old new i snaps packets answer k answers covered more before m p q parts w near fits =
    elim (before_or_in p q i) [
      | inl out ↦ more m (before m p q parts (whole_before w out) (PacketWindow-shrinks terms.listing (Packet i snaps) came p near) fits)
      | inr within ↦ covers_found terms packets i new answer answers covered m parts (whole_finds k w near within.0 within.1) fits
    ]

pub covers_same : (member : Image) → CoversMore member member
covers_same member m h = h

-- nothing is adopted
pub receives : {terms : Terms} {old : Image} {came : List Arrival} (i : ℕ) (snaps : List Snap) (ring : List (ℕ × List ℕ)) (answer : Option (ℕ × List Section)) →
    Assembles terms.listing (max i old.highest_packet) i snaps (packets_of old) (packets_of (received old i snaps ring)) answer → IsCovered terms.listing.securities old answer → Holds terms old came →
    Holds terms (received old i snaps ring) (Packet i snaps ∷ came)
receives {terms} {old} {came} i snaps ring answer a covered h =
    let k = packed i snaps (packets_of (received old i snaps ring)) answer a h in
    record {
      terms_are = h.terms_are;
      highest = h.highest;
      highest_packet = ap (λ x. max i x) h.highest_packet;
      known = ap (λ x. max (greatest_named snaps) x) h.known;
      kept = h.kept;
      all = h.all;
      packets = k.packets_first;
      near = k.near;
      supported = λ j at. Supported-grows (Packet i snaps) (h.supported j at);
      one = h.one;
      cycles = (
        covers_now old (received old i snaps ring) i snaps (packets_of (received old i snaps ring)) answer k a.answers (covered_same answer covered) (λ m c. c) (EachMoment-now (CoversCycles terms.listing old) came h.cycles),
        cycles_stay terms old (received old i snaps ring) came (λ m c. c) h.cycles,
      );
    } where
      covered_same : (answer : Option (ℕ × List Section)) → IsCovered terms.listing.securities old answer → IsCovered terms.listing.securities (received old i snaps ring) answer
      covered_same None c = tt
      covered_same (Some whole) c = c

pub covers_adopt : (base : Option ℕ) (refused : Option Refusal) (m : ℕ) → IsBelow base m → IsUpTo refused m → (n : ℕ) → Covers base refused n → n ≤ m
covers_adopt (Some b) refused m below upto n c = omega arith
covers_adopt None (Some q) m below upto n c = omega arith
covers_adopt None None m below upto n c = absurd c

pub floor_adopt : (base : Option ℕ) (refused : Option Refusal) (m : ℕ) → IsBelow base m → IsUpTo refused m → floor_of base refused ≤ m
floor_adopt (Some b) refused m below upto = omega arith
floor_adopt None (Some q) m below upto = upto
floor_adopt None None m below upto = omega arith

-- a cycle is adopted
pub takes_over : {terms : Terms} {old : Image} {came : List Arrival} (i : ℕ) (snaps : List Snap) (ring : List (ℕ × List ℕ)) (m : ℕ) (parts : List Section) (list : List Resting) →
    Assembles terms.listing (max i old.highest_packet) i snaps (packets_of old) (packets_of (received old i snaps ring)) (Some (m, parts)) → IsBelow old.base m → IsUpTo old.refused m → Holds terms old came →
    Holds terms (adopted (received old i snaps ring) m list) (Packet i snaps ∷ came)
takes_over {terms} {old} {came} i snaps ring m parts list a below upto h =
    let k = packed i snaps (packets_of (received old i snaps ring)) (Some (m, parts)) a h in
    let new : Image = adopted (received old i snaps ring) m list in
    let more : CoversMore old new = covers_adopt old.base old.refused m below upto in
    record {
      terms_are = h.terms_are;
      highest = h.highest;
      highest_packet = ap (λ x. max i x) h.highest_packet;
      known = ap (λ x. max (greatest_named snaps) x) h.known;
      kept = h.kept;
      all = λ j above came_j near. (let f = floor_adopt old.base old.refused m below upto in
          let lower : floor old < j = omega arith in h.all j lower came_j near);
      packets = k.packets_first;
      near = k.near;
      supported = λ j at. (let e = some_one at in rw (← e) (Supported-whole (finds_whole k a.answers)));
      one = λ j at. refl;
      cycles = (
        covers_now old new i snaps (packets_of (received old i snaps ring)) (Some (m, parts)) k a.answers (λ fits. omega arith) more (EachMoment-now (CoversCycles terms.listing old) came h.cycles),
        cycles_stay terms old new came more h.cycles,
      );
    }

-- what holds once a snapshot datagram is taken, and the number after the base isn't kept
pub receives_holds : {terms : Terms} (i : ℕ) (snaps : List Snap) {old new : Image} {came : List Arrival} →
    Receives terms.listing i snaps old new → Holds terms old came → Rests old → Holds terms new (Packet i snaps ∷ came) × Rests new
receives_holds i snaps (finds_none ring a) h rests = (receives i snaps ring None a tt h, rests)
receives_holds {terms} i snaps {old} (ignores ring m parts a why) h rests =
    (receives i snaps ring (Some (m, parts)) a (λ fits. covered old.base old.refused m h.one (λ b u. absurd (let e = why b u in let g = fits.1 in cc (e, g)))) h, rests) where
      covered : (base : Option ℕ) (refused : Option Refusal) (m : ℕ) → ((n : ℕ) → base ≡ Some n → refused ≡ None) → (IsBelow base m → IsUpTo refused m → ⊥) → Covers base refused m
      covered (Some b) None m one refute = le_not b m (λ low. refute low tt)
      covered (Some b) (Some q) m one refute = absurd (cc (one b refl))
      covered None (Some q) m one refute = lt_not m q.number (λ low. refute tt low)
      covered None None m one refute = absurd (refute tt tt)
receives_holds i snaps (adopts ring m parts list a below upto fits rest) h rests =
    chain_holds rest (takes_over i snaps ring m parts list a below upto h)

-- on what an exchange sent
module _ (terms : Terms) (acts : List Act) (laws : Laws terms acts) (came : List Arrival) (i : ℕ) (snaps : List Snap) (genuine : AreSent terms acts (Packet i snaps ∷ came)) where
  pub still : {old : Image} (ring : List (ℕ × List ℕ)) → Mirrors terms acts old → Mirrors terms acts (received old i snaps ring)
  still ring m = record { trusted = m.trusted; list = m.list; kept = m.kept }

  pub none_offered : (old : Image) (packets : (ℕ → Option (List Snap))) → Packed terms packets (Packet i snaps ∷ came) → Answers terms.listing.securities packets i None →
      (m : ℕ) (parts : List Section) → Offers terms.listing (Packet i snaps ∷ came) i old.base m parts → ⊥
  none_offered old packets k answers m parts offer = answers m parts (whole_finds k offer.whole offer.near offer.from offer.upto)

  pub not_above : (old : Image) (packets : (ℕ → Option (List Snap))) (m : ℕ) (parts : List Section) → Packed terms packets (Packet i snaps ∷ came) → Finds terms.listing.securities packets i m parts →
      (IsBelow old.base m → IsUpTo old.refused m → staged terms.listing.securities (orders_of parts) [] ≡ None) → Mirrors terms acts old →
      (m' : ℕ) (parts' : List Section) → Offers terms.listing (Packet i snaps ∷ came) i old.base m' parts' → ⊥
  not_above old packets m parts k found why mirrors m' parts' offer =
      let found' = whole_finds k offer.whole offer.near offer.from offer.upto in
      let same = same_cycle packets i found.run found'.run found.from found.upto found'.from found'.upto in
      let below : IsBelow old.base m = rw same.number offer.above in
      let upto : IsUpTo old.refused m = rw mirrors.trusted tt in
      let misfit = why below upto in
      let fits = laws.cycles (Packet i snaps ∷ came) m found.p found.q parts genuine (finds_whole k found) in
      cc (misfit, fits)

  pub receives_reaches : {old new : Image} → Receives terms.listing i snaps old new → Holds terms old came → Mirrors terms acts old →
      Mirrors terms acts new × ReachesByPacket terms.listing (Packet i snaps ∷ came) i old.base new.base
  receives_reaches {old} (finds_none ring a) h mirrors =
      (still ring mirrors, inr (refl, none_offered old (packets_of (received old i snaps ring)) (packed i snaps (packets_of (received old i snaps ring)) None a h) a.answers))
  receives_reaches {old} (ignores ring m parts a why) h mirrors =
      (still ring mirrors, inr (refl, not_above old (packets_of (received old i snaps ring)) m parts (packed i snaps (packets_of (received old i snaps ring)) (Some (m, parts)) a h) a.answers why mirrors))
  receives_reaches {old} (adopts ring m parts list a below upto fits rest) h mirrors =
      let k = packed i snaps (packets_of (received old i snaps ring)) (Some (m, parts)) a h in
      let law = laws.cycles (Packet i snaps ∷ came) m a.answers.p a.answers.q parts genuine (finds_whole k a.answers) in
      let book : list ≡ book_at terms.listing (commands_of acts) m = some_one (sym fits ∙ law) in
      let now : Mirrors terms acts (adopted (received old i snaps ring) m list) =
      record { trusted = refl; list = λ n at. book ∙ ap (λ k. book_at terms.listing (commands_of acts) k) (some_one at); kept = mirrors.kept } in
      let reached = chain_reaches terms acts laws (Packet i snaps ∷ came) m (Buffered terms.listing (Packet i snaps ∷ came)) (λ j here. here) (λ n near here. here) m rest refl
      (takes_over i snaps ring m parts list a below upto h) now (omega arith) (λ j above low. absurd (omega arith)) (λ here. here) in
      let offer : Offers terms.listing (Packet i snaps ∷ came) i old.base m parts = record {
        p = a.answers.p;
        q = a.answers.q;
        whole = finds_whole k a.answers;
        near = finds_near k a.answers;
        from = a.answers.from;
        upto = a.answers.upto;
        above = below;
      } in
      (reached.0, inl (m, reached.1.0, parts, offer, reached.1.1, reached.1.2))

-- the step of a snapshot datagram
pub step_packet : {terms : Terms} {acts : List Act} {old new : Image} {came : List Arrival} (i : ℕ) (snaps : List Snap) →
    Laws terms acts → Receives terms.listing i snaps old new → Keeps terms acts old came → Keeps terms acts new (Packet i snaps ∷ came)
step_packet {terms} {acts} {old} {new} {came} i snaps laws step keeps =
    let both = receives_holds i snaps step keeps.holds keeps.rests in
    record {
      holds = both.0;
      rests = both.1;
      mirrors = λ genuine.
          let before = keeps.mirrors genuine.1 in
          let now = receives_reaches terms acts laws came i snaps genuine step keeps.holds before.0 in
          (now.0, (old.base, before.1, now.1));
    }

-- the step, with the terms that the member has
pub packet_step : (terms : Terms) (acts : List Act) (old new : Image) (came : List Arrival) (i : ℕ) (snaps : List Snap) →
    Laws terms acts → Receives old.terms.listing i snaps old new → Keeps terms acts old came → Keeps terms acts new (Packet i snaps ∷ came)
packet_step terms acts old new came i snaps laws receives keeps =
    step_packet i snaps laws (subst (λ (t : Terms). Receives t.listing i snaps old new) keeps.holds.terms_are receives) keeps
