-- What a member counts as fresh is what is new among all that came.
use Rattle.std.proofs.Common.{Bool, true, false, ◌||◌, IsTrue, ◌≡◌, ◌↔◌, ℕ, zero, suc, ◌<◌, ◌⊎◌, inl, inr, List, [], ◌∷◌, Option, Some, None, refl, sym, subst, ◌∙◌, arith}
use Rattle.t7_base.specs.Listing.{Listing}
use Rattle.t7_base.specs.declared.ids.Feed.{Feed}
use Rattle.t7_base.specs.declared.ids.Channel.{Channel}
use Rattle.t7_base.specs.declared.ids.Channel.TheVariants as channel
use Rattle.t7_base.specs.declared.public.Public.{Public}
use Rattle.t7_eobi.specs.declared.walks.Live.{Live}
use Rattle.t7_eobi.specs.declared.walks.Live.TheVariants.{Beat, Message}
use Rattle.t7_eobi.specs.Datagrams.{packet_number}
use Rattle.t7_eobi.specs.Faults.{fault_of}
use Rattle.t7_lines.specs.Gap.{kept_at}
use Rattle.t7_book.specs.Acts.{Act}
use Rattle.t7_feed.specs.Arrivals.{AreTerms, Arrival, Delivery, PacketWindow, Terms, Told, arrivals, channel_of, first, reading_of, taken, taken_where, told}
use Rattle.t7_feed.specs.Sending.{AreActs, AreSent, Genuine, message_sent}
use Rattle.t7_feed.specs.Whole.{Buffered, IsBelow}
use Rattle.t7_feed.proofs.Genuine.{genuine_sent}
use Rattle.t7_feed.proofs.Reached.{reaches_one}
use Rattle.t7_feed.proofs.Sayable.{acts_sayable}
use Rattle.t7_feed.proofs.Sent.{Laws, laws_hold}
use Rattle.t7_member.specs.declared.standing.Refusal.{Refusal}
use Rattle.t7_member.specs.Fresh.{CountsFresh, GivesNew, IsNewItem, IsNewMessage}
use Rattle.t7_member.specs.Keeping.{Holds, Image, Keeps, floor_of}
use Rattle.t7_member.specs.Steps.{Delivers, IsFresh, IsNewPacket, TakesDatagram, Tells, all, one, TellsOne}
use Rattle.t7_member.proofs.Delivering.{one_keeps}
use Rattle.t7_member.proofs.Hear.{kept_held}
use Rattle.t7_member.proofs.Report.{genuine_before}

floor_below : (base : Option ℕ) (refused : Option Refusal) (k : ℕ) → refused ≡ None → IsBelow base k → 0 < k → floor_of base refused < k
floor_below (Some n) refused k none below some = below
floor_below None None k none below some = some
floor_below None (Some q) k none below some = absurd (cc none)

sent_some : (listing : Listing) (acts : List Act) (k : ℕ) (said : Public) → message_sent listing acts k ≡ Some said → 0 < k
sent_some listing acts zero said is = absurd (cc is)
sent_some listing acts (suc k) said is = omega arith

none_kept : {terms : Terms} {member : Image} {came : List Arrival} (k : ℕ) → Holds terms member came → (Buffered terms.listing came k → ⊥) → kept_at member.kept k ≡ None
none_kept {terms} {member} k holds unheld = by (kept_at member.kept k) refl
  where
    by : (o : Option Public) → kept_at member.kept k ≡ o → kept_at member.kept k ≡ None
    by None is = is
    by (Some said) is = absurd (unheld (kept_held k said holds is))

-- a message is fresh to the member exactly where it is new
message_fresh : (terms : Terms) (acts : List Act) (member : Image) (came : List Arrival) (k : ℕ) (said : Public) → Keeps terms acts member came → AreSent terms acts (Told (Message k said) ∷ came)
    → IsFresh terms.listing member k ↔ IsNewMessage terms.listing came k said
message_fresh terms acts member came k said keeps sent =
    let mirrors = keeps.mirrors sent.1 in
    let high = keeps.holds.highest in (
      λ fresh. record {
        reached = member.base;
        is = mirrors.1;
        above = fresh.0;
        unheld = λ held. (let there = keeps.holds.all k (floor_below member.base member.refused k mirrors.0.trusted fresh.0 (sent_some terms.listing acts k said sent.0)) held.0 held.1 in
            let none = fresh.1 in let some = there.1 in absurd (cc (some, none)));
        near = elim fresh.2 [ inl near ↦ inl (omega (arith, high, near)) | inr after ↦ inr after ];
      },
      λ new. (let same : new.reached ≡ member.base = reaches_one terms.listing came new.reached member.base new.is mirrors.1 in (
        subst (λ r. IsBelow r k) same new.above,
        none_kept k keeps.holds new.unheld,
        elim new.near [ inl near ↦ inl (omega (arith, high, near)) | inr after ↦ inr (after.0, sym same ∙ after.1, after.2) ],
      )),
    )

or_tells : (a b : Bool) (A B : Type 0) → IsTrue a ↔ A → IsTrue b ↔ B → IsTrue (a || b) ↔ (A ⊎ B)
or_tells true b A B fa fb = (λ t. inl (fa.0 refl), λ h. refl)
or_tells false b A B fa fb = (λ t. inr (fb.0 t), λ h. elim h [ inl x ↦ absurd (let t = fa.1 x in cc t) | inr y ↦ fb.1 y ])

sent_before : (terms : Terms) (acts : List Act) (lives : List Live) (came : List Arrival) → AreSent terms acts (told lives came) → AreSent terms acts came
sent_before terms acts [] came sent = sent
sent_before terms acts (live ∷ lives) came sent = genuine_before terms acts (Told live) came (sent_before terms acts lives (Told live ∷ came) sent)

item_fresh : (terms : Terms) (acts : List Act) (live : Live) (new : Bool) (old mid : Image) (came : List Arrival) → TellsOne terms.listing live new old mid → Keeps terms acts old came → AreSent terms acts (Told live ∷ came)
    → IsTrue new ↔ IsNewItem terms.listing came live
item_fresh terms acts (Message k said) new old mid came tells keeps sent =
    let m = message_fresh terms acts old came k said keeps sent in
    (λ t. m.0 (tells.1.0 t), λ n. tells.1.1 (m.1 n))
item_fresh terms acts (Beat last) new old mid came tells keeps sent = (λ t. absurd (let f = tells.1 in cc (t, f)), λ h. absurd h)

tells_fresh : {terms : Terms} {acts : List Act} {lives : List Live} {new : Bool} {old last : Image} {came : List Arrival} → Laws terms acts → Tells terms.listing lives new old last → Keeps terms acts old came
    → AreSent terms acts (told lives came) → IsTrue new ↔ GivesNew terms.listing lives came
tells_fresh laws all keeps sent = (λ t. absurd (cc t), λ h. absurd h)
tells_fresh {terms} {acts} {came = came} laws (one {old} {mid} {last} {lives} {later} live new tells rest) keeps sent =
    or_tells new later (IsNewItem terms.listing came live) (GivesNew terms.listing lives (Told live ∷ came))
    (item_fresh terms acts live new old mid came tells keeps (sent_before terms acts lives (Told live ∷ came) sent))
    (tells_fresh laws rest (one_keeps live new laws tells keeps) sent)

packet_fresh : (terms : Terms) (acts : List Act) (member : Image) (came : List Arrival) (i : ℕ) → Keeps terms acts member came → IsNewPacket terms.listing member i ↔ (PacketWindow terms.listing came i × (first came i ≡ None))
packet_fresh terms acts member came i keeps =
    let high = keeps.holds.highest_packet in (
      λ new. (let near = new.0 in let window : PacketWindow terms.listing came i = omega (arith, high, near) in (window, sym (keeps.holds.packets i window) ∙ new.1)),
      λ new. (let near = new.0 in (omega (arith, high, near), keeps.holds.packets i new.0 ∙ new.1)),
    )

datagram_fresh : (terms : Terms) (acts : List Act) (c : Channel) (bytes : List ℕ) (new : Bool) (old mid : Image) (came : List Arrival) → Laws terms acts → TakesDatagram terms c bytes new old mid → Keeps terms acts old came
    → AreSent terms acts (taken terms.layouts c bytes came) → IsTrue new ↔ CountsFresh terms c bytes came
datagram_fresh terms acts channel.Live bytes new old mid came laws takes keeps sent = tells_fresh laws takes keeps sent
datagram_fresh terms acts channel.Snap bytes new old mid came laws takes keeps sent =
    let p = packet_fresh terms acts old came (packet_number terms.layouts bytes) keeps in
    (λ t. p.0 (takes.1.0 t), λ h. takes.1.1 (p.1 h))

-- what is counted as fresh
pub fresh_is_new : (terms : Terms) (acts : List Act) (dl : List Delivery) (feed : Feed) (bytes : List ℕ) (old new : Image) → AreTerms terms → AreActs terms.listing acts → Keeps terms acts old (arrivals terms dl)
    → Genuine terms acts (record { feed = feed; bytes = bytes } ∷ dl) → fault_of (reading_of terms feed) bytes ≡ None → (d : Delivers feed bytes old new) → IsTrue d.fresh ↔ CountsFresh terms (channel_of feed) bytes (arrivals terms dl)
fresh_is_new terms acts dl feed bytes old new are valid keeps genuine faultless d =
    let laws = laws_hold terms acts are.product valid in
    let sent = genuine_sent terms acts (acts_sayable terms are acts valid) (record { feed = feed; bytes = bytes } ∷ dl) genuine in
    let here = subst (λ f. AreSent terms acts (taken_where f terms.layouts (channel_of feed) bytes (arrivals terms dl))) faultless sent in
    let takes = subst (λ (t : Terms). TakesDatagram t (channel_of feed) bytes d.fresh old d.between) keeps.holds.terms_are d.takes in
    datagram_fresh terms acts (channel_of feed) bytes d.fresh old d.between (arrivals terms dl) laws takes keeps here
