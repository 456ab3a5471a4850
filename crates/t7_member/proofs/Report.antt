-- The report of a member follows from what it keeps.
use Rattle.std.proofs.Common.{◌≡◌, ℕ, ◌+◌, ◌<◌, inl, inr, List, [], ◌∷◌, Option, Some, None, refl, sym, ◌∙◌, arith, eqb, if◌then◌else◌, true, false}
use Rattle.std.proofs.lemmas.Bool.Decides.{eqb_tells}
use Rattle.t7_base.specs.Listing.{Listing}
use Rattle.t7_base.specs.declared.public.Resting.{Resting}
use Rattle.t7_eobi.specs.declared.walks.Live.TheVariants.{Beat, Message}
use Rattle.t7_feed.proofs.Growth.{EachMoment-map}
use Rattle.t7_feed.proofs.Reached.{IsReachedBy, each_prefix, nothing_whole, reached_always}
use Rattle.t7_feed.proofs.Sent.{Laws}
use Rattle.t7_book.specs.Acts.{Act, commands_of}
use Rattle.t7_lines.specs.Gap.{no_tallies}
use Rattle.t7_feed.specs.declared.State.TheVariants.{Sync, Miss}
use Rattle.t7_feed.specs.Arrivals.{Delivery, Arrival, Came, EachMoment, Packet, Terms, Told, Window, arrivals, known}
use Rattle.t7_feed.specs.Report.{CoversAll, IsFrom, IsInSync, IsNeverBelow, IsSupportedBook, ReachesAtMost, Report, Shows}
use Rattle.t7_feed.specs.Sending.{AreSent, book_at}
use Rattle.t7_feed.specs.Whole.{Supported}
use Rattle.t7_member.specs.Keeping.{packets_of, Covers, CoversCycles, Holds, Image, Keeps, Rests, floor}
use Rattle.t7_member.specs.declared.standing.Refusal.{Refusal}
use Rattle.t7_member.specs.Status.{shown_of, status_of}

pub covers_from : (base : Option ℕ) (refused : Option Refusal) (m : ℕ) → refused ≡ None → Covers base refused m → IsFrom m base
covers_from (Some n) refused m none c = c
covers_from None (Some q) m none c = absurd (cc none)
covers_from None None m none c = c

pub genuine_before : (terms : Terms) (acts : List Act) (arrival : Arrival) (before : List Arrival) → AreSent terms acts (arrival ∷ before) → AreSent terms acts before
genuine_before terms acts (Told (Message k said)) before g = g.1
genuine_before terms acts (Told (Beat last)) before g = g
genuine_before terms acts (Packet i snaps) before g = g.1

pub covers_now : (terms : Terms) (acts : List Act) (member : Image) (came : List Arrival) → Laws terms acts → AreSent terms acts came → member.refused ≡ None →
    CoversCycles terms.listing member came → CoversAll terms.listing member.base came
covers_now terms acts member came laws genuine none c m p q parts w near =
    covers_from member.base member.refused m none (c m p q parts w near (book_at terms.listing (commands_of acts) m, laws.cycles came m p q parts genuine w))

pub covers_always : (terms : Terms) (acts : List Act) (member : Image) (came : List Arrival) → Laws terms acts → AreSent terms acts came → member.refused ≡ None →
    EachMoment (CoversCycles terms.listing member) came → EachMoment (CoversAll terms.listing member.base) came
covers_always terms acts member [] laws genuine none h = covers_now terms acts member [] laws genuine none h
covers_always terms acts member (arrival ∷ before) laws genuine none h = (
  covers_now terms acts member (arrival ∷ before) laws genuine none h.0,
  covers_always terms acts member before laws (genuine_before terms acts arrival before genuine) none h.1,
)

pub shows_status : (base : Option ℕ) (refused : Option Refusal) (known : ℕ) → refused ≡ None → Shows (status_of base refused known) base
shows_status None None known none = refl
shows_status None (Some q) known none = absurd (cc none)
shows_status (Some n) refused known none =
    elim (eqb n known) as (λ b. Shows (if b then Sync n else Miss (n + 1)) (Some n)) [ true ↦ refl | false ↦ (n, refl, refl) ]

pub in_sync : (listing : Listing) (came : List Arrival) (base : Option ℕ) (refused : Option Refusal) (now : ℕ) → refused ≡ None → now ≡ known came →
    ((n : ℕ) → base ≡ Some n → Came came (n + 1) → Window listing came (n + 1) → ⊥) → IsInSync listing came (status_of base refused now)
in_sync listing came None None now none is gone = tt
in_sync listing came None (Some q) now none is gone = absurd (cc none)
in_sync listing came (Some n) refused now none is gone =
    elim (eqb_tells n now) [
      | inl same ↦ rw same.0 (omega arith)
      | inr other ↦ (let differs = other.1 in rw other.0 (λ e. differs (omega arith), gone n refl))
    ]

pub book_shown : (terms : Terms) (acts : List Act) (came : List Arrival) (base : Option ℕ) (list : List Resting) →
    ((n : ℕ) → base ≡ Some n → Supported terms.listing came n) → ((n : ℕ) → base ≡ Some n → list ≡ book_at terms.listing (commands_of acts) n) → IsSupportedBook terms acts came base (shown_of base list)
book_shown terms acts came None list s m = refl
book_shown terms acts came (Some n) list s m = (s n refl, m n refl)

-- the number after the base didn't come, or isn't in its window
pub next_gone : {terms : Terms} {member : Image} {came : List Arrival} → Holds terms member came → Rests member → (n : ℕ) → member.base ≡ Some n → Came came (n + 1) → Window terms.listing came (n + 1) → ⊥
next_gone {terms} {member} h rests n is here near =
    let f : floor member ≡ n = rw is refl in
    let above : floor member < n + 1 = omega arith in
    let found = h.all (n + 1) above here near in
    let none = rests n is in
    cc (found.1, none)

-- the report
pub report : {terms : Terms} {acts : List Act} {member : Image} (dl : List Delivery) → Laws terms acts →
    Keeps terms acts member (arrivals terms dl) → AreSent terms acts (arrivals terms dl) →
    Report terms acts dl (status_of member.base member.refused member.known) (shown_of member.base member.list)
report {terms} {acts} {member} dl laws keeps genuine =
    let both = keeps.mirrors genuine in
    let mirrors = both.0 in
    let holds = keeps.holds in
    let always = reached_always terms.listing (arrivals terms dl) member.base both.1 in
    record {
      number = member.base;
      shows = shows_status member.base member.refused member.known mirrors.trusted;
      book = book_shown terms acts (arrivals terms dl) member.base member.list holds.supported mirrors.list;
      reached = each_prefix terms (ReachesAtMost terms.listing member.base) dl
          (EachMoment-map (IsReachedBy terms.listing member.base) (ReachesAtMost terms.listing member.base) (arrivals terms dl) (λ some at. at.0) always);
      never_below = each_prefix terms (IsNeverBelow terms.listing member.base) dl
          (EachMoment-map (IsReachedBy terms.listing member.base) (IsNeverBelow terms.listing member.base) (arrivals terms dl) (λ some at. at.1) always);
      cycles = each_prefix terms (CoversAll terms.listing member.base) dl (covers_always terms acts member (arrivals terms dl) laws genuine mirrors.trusted holds.cycles);
      sync = in_sync terms.listing (arrivals terms dl) member.base member.refused member.known mirrors.trusted holds.known (next_gone holds keeps.rests);
      now = both.1;
    }

-- a member that nothing came to
abbrev pub empty : Terms → List (ℕ × List ℕ) → Image
empty terms ring = record { terms = terms; base = None; list = []; kept = []; ring = ring; highest = 0; highest_packet = 0; known = 0; refused = None; tallies = no_tallies; bad = 0 }

pub empty_keeps : (terms : Terms) (acts : List Act) (ring : List (ℕ × List ℕ)) → ((i : ℕ) → packets_of (empty terms ring) i ≡ None) → Keeps terms acts (empty terms ring) []
empty_keeps terms acts ring none = record {
  holds = record {
    terms_are = refl;
    highest = refl;
    highest_packet = refl;
    known = refl;
    kept = λ k said at. absurd (cc at);
    all = λ k above came near. absurd came;
    packets = λ i near. none i;
    near = λ i snaps at. absurd (let e = sym (none i) ∙ at in cc e);
    supported = λ n at. absurd (cc at);
    one = λ n at. refl;
    cycles = λ m p q parts w near fits. absurd (nothing_whole w.run);
  };
  rests = λ n at. refl;
  mirrors = λ genuine. (record { trusted = refl; list = λ n at. absurd (cc at); kept = λ k said at. absurd (cc at) }, refl);
}
