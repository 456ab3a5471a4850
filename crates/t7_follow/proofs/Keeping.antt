-- What a member that follows the feed keeps, and what it shows by that.
use Rattle.std.proofs.Common.{◌≡◌, ℕ, ◌+◌, List, [], ◌∷◌, Option, Some, None, IfSome, IfNone, MatchOption, length, arith, refl, sym, ◌∙◌, ap, subst}
use Rattle.t7_base.specs.Listing.{Listing}
use Rattle.t7_base.specs.declared.ids.Feed.{Feed}
use Rattle.t7_book.specs.Acts.{Act}
use Rattle.t7_eobi.specs.Faults.{fault_of}
use Rattle.t7_feed.specs.Arrivals.{Delivery, Terms, arrivals, reading_of}
use Rattle.t7_feed.specs.Sending.{AreActs}
use Rattle.t7_lines.specs.Gap.{no_tallies, raised}
use Rattle.t7_member.specs.Keeping.{Image, Keeps}
use Rattle.t7_member.specs.Steps.{Delivers}
use Rattle.t7_net.specs.declared.line.LineItem.{LineItem}
use Rattle.t7_net.specs.declared.line.LineItem.TheVariants.{Datagram, Quiet}
use Rattle.t7_follow.specs.Followers.{Following, KeepsAll, Stands, Took, TookDatagram}
use Rattle.t7_follow.specs.Members.{Made, Takes}
use Rattle.t7_follow.specs.Reports.{delivered}

-- a fact for each case
pub match_both : {A : Type 0} (o : Option A) (P : Type 0) (Q : A → Type 0) → IfNone o P → IfSome o Q → MatchOption o P Q
match_both None P Q none some = none
match_both (Some x) P Q none some = some

-- before the first receipt
pub stands_new : (terms : Terms) (member : Image) (printed : List ℕ) → member.terms ≡ terms → member.tallies ≡ no_tallies → member.bad ≡ 0
    → ((acts : List Act) → Keeps member.terms acts member []) → printed ≡ [] → Stands terms [] (record { member = member; printed = printed; datagrams = 0 })
stands_new terms member printed are none unbad keeps is =
    let kept : (acts : List Act) → Keeps terms acts member [] = λ (acts : List Act). subst (λ (t : Terms). Keeps t acts member []) are (keeps acts) in record {
      made = record { terms_are = are; tallies = none; bad = unbad; keeps = kept };
      keeps = λ acts valid. kept acts;
      printed = is;
      count = refl;
    }

-- A receipt more was taken.
pub record HasTaken (terms : Terms) (came : List Delivery) (now : Following) : Type 0 where
  pub made : Made terms came now.member
  pub keeps : KeepsAll terms came now.member
  pub count : now.datagrams ≡ length came

-- acts without an act
no_acts : (listing : Listing) → AreActs listing []
no_acts listing = record { accepted = record { few = omega arith; each = tt }; ranged = tt; beats = omega arith; snaps = omega arith }

longer : (delivery : Delivery) (came : List Delivery) → length came + 1 ≡ length (delivery ∷ came)
longer delivery came = omega arith

pub has_taken : (terms : Terms) (before : List LineItem) (item : LineItem) (old new : Following) → Stands terms before old → Took (item ∷ []) old new
    → HasTaken terms (delivered (item ∷ before)) new
has_taken terms before Quiet old new stands took =
    subst (λ (f : Following). HasTaken terms (delivered before) f) (sym took) (record { made = stands.made; keeps = stands.keeps; count = stands.count })
has_taken terms before (Datagram feed bytes) old new stands took =
    let are : old.member.terms ≡ terms = (stands.keeps [] (no_acts terms.listing)).holds.terms_are in record {
      made = (old.member, stands.made, subst (λ (t : Terms). Takes t feed bytes old.member new.member) are took.0.takes);
      keeps = took.0.keeps terms (delivered before) stands.keeps;
      count = took.1 ∙ ap (λ (n : ℕ). n + 1) stands.count ∙ longer (record { feed = feed; bytes = bytes }) (delivered before);
    }

-- a datagram was delivered
pub delivers : (feed : Feed) (bytes : List ℕ) (old before after : Image) → before ≡ old
    → IfNone (fault_of (reading_of before.terms feed) bytes) (Delivers feed bytes before after)
    → IfSome (fault_of (reading_of before.terms feed) bytes) (λ fault. after ≡ record before { bad = raised before.bad })
    → ((terms : Terms) (acts : List Act) (came : List Delivery) → AreActs terms.listing acts → Keeps terms acts before (arrivals terms came)
    → Keeps terms acts after (arrivals terms (record { feed = feed; bytes = bytes } ∷ came)))
    → TookDatagram feed bytes old after
delivers feed bytes old before after is accepted refused step =
    subst (λ (m : Image). TookDatagram feed bytes m after) is (record {
      takes = match_both (fault_of (reading_of before.terms feed) bytes) (Delivers feed bytes before after)
          (λ fault. after ≡ record before { bad = raised before.bad }) accepted refused;
      keeps = λ terms came keeps acts valid. step terms acts came valid (keeps acts valid);
    })
