-- What a member keeps of one delivery more.
use Rattle.std.proofs.Common.{◌≡◌, ℕ, ◌↔◌, List, [], ◌∷◌, Option, Some, None, IsTrue, IfSome, IfNone, refl, sym, ap, subst, arith}
use Rattle.t7_base.specs.Listing.{Listing}
use Rattle.t7_base.specs.declared.ids.Feed.{Feed}
use Rattle.t7_book.specs.Acts.{Act}
use Rattle.t7_eobi.specs.declared.faults.PacketFault.{PacketFault}
use Rattle.t7_eobi.specs.Faults.{fault_of}
use Rattle.t7_feed.specs.Arrivals.{AreTerms, Delivery, Terms, arrivals, channel_of, reading_of}
use Rattle.t7_feed.specs.Sending.{AreActs, Genuine}
use Rattle.t7_lines.specs.declared.tally.Tallies.{Tallies}
use Rattle.t7_lines.specs.Gap.{raised}
use Rattle.t7_member.specs.Fresh.{CountsFresh}
use Rattle.t7_member.specs.Keeping.{Image, Keeps}
use Rattle.t7_member.specs.Steps.{Delivers}
use Rattle.t7_drill.specs.Feeding.{Counts, Heard, Tallied, delivered}

-- an exchange that did nothing
pub no_acts : (listing : Listing) → AreActs listing []
no_acts listing = record { accepted = record { few = omega arith; each = tt }; ranged = tt; beats = omega arith; snaps = omega arith }

-- a member that was given these is read by the terms
pub heard_terms : (terms : Terms) (member : Image) (came : List Delivery) → Heard terms member came → member.terms ≡ terms
heard_terms terms member came heard = (heard.keeps [] (no_acts terms.listing)).holds.terms_are

-- what an accepted delivery counts as
abbrev pub FreshIsNew : Type 0
FreshIsNew = (terms : Terms) (acts : List Act) (dl : List Delivery) (feed : Feed) (bytes : List ℕ) (old new : Image) → AreTerms terms
    → AreActs terms.listing acts → Keeps terms acts old (arrivals terms dl)
    → Genuine terms acts (record { feed = feed; bytes = bytes } ∷ dl) → fault_of (reading_of terms feed) bytes ≡ None
    → (d : Delivers feed bytes old new) → IsTrue d.fresh ↔ CountsFresh terms (channel_of feed) bytes (arrivals terms dl)

-- what a delivery does to a member
pub record Delivering (feed : Feed) (bytes : List ℕ) (old new : Image) : Type 0 where
  pub refused : IfSome (fault_of (reading_of old.terms feed) bytes) (λ _. new ≡ record old { bad = raised old.bad })
  pub accepted : IfNone (fault_of (reading_of old.terms feed) bytes) (Delivers feed bytes old new)
  pub step : (terms : Terms) (acts : List Act) (dl : List Delivery) → AreActs terms.listing acts → Keeps terms acts old (arrivals terms dl)
      → Keeps terms acts new (arrivals terms (record { feed = feed; bytes = bytes } ∷ dl))

counts_by : (terms : Terms) (acts : List Act) (feed : Feed) (bytes : List ℕ) (old new : Image) (came : List Delivery) (fault : Option PacketFault) → FreshIsNew
    → AreTerms terms → AreActs terms.listing acts → Heard terms old came → Genuine terms acts (delivered feed bytes came)
    → fault_of (reading_of terms feed) bytes ≡ fault
    → IfSome fault (λ _. new ≡ record old { bad = raised old.bad }) → IfNone fault (Delivers feed bytes old new)
    → Counts fault (Tallied terms came) feed (CountsFresh terms (channel_of feed) bytes (arrivals terms came)) new.tallies
counts_by terms acts feed bytes old new came (Some fault) fresh sound are heard genuine is refused accepted =
    let same : new.tallies ≡ old.tallies = ap (λ (m : Image). m.tallies) refused in
    subst (λ (t : Tallies). Tallied terms came t) (sym same) (heard.tallies acts are genuine.1)
counts_by terms acts feed bytes old new came None fresh sound are heard genuine is refused accepted = (
  old.tallies,
  accepted.fresh,
  heard.tallies acts are genuine.1,
  fresh terms acts came feed bytes old new sound are (heard.keeps acts are) genuine is accepted,
  ap (λ (m : Image). m.tallies) accepted.counted,
)

pub heard_more : (terms : Terms) (feed : Feed) (bytes : List ℕ) (old new : Image) (came : List Delivery) → FreshIsNew → AreTerms terms
    → Delivering feed bytes old new → Heard terms old came → Heard terms new (delivered feed bytes came)
heard_more terms feed bytes old new came fresh sound does heard =
    let same = heard_terms terms old came heard in
    let refused = subst (λ (t : Terms). IfSome (fault_of (reading_of t feed) bytes) (λ _. new ≡ record old { bad = raised old.bad })) same does.refused in
    let accepted = subst (λ (t : Terms). IfNone (fault_of (reading_of t feed) bytes) (Delivers feed bytes old new)) same does.accepted in
    record {
      keeps = λ acts are. does.step terms acts came are (heard.keeps acts are);
      tallies = λ acts are genuine. counts_by terms acts feed bytes old new came
          (fault_of (reading_of terms feed) bytes) fresh sound are heard genuine refl refused accepted;
    }
