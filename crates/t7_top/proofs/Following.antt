-- The member on the network.
use Rattle.std.proofs.Common.{◌≡◌, ◌≤◌, ℕ, List, [], Bool, true, false, Option, None, Err, length, ◌==◌, if◌then◌else◌, refl, ap, reverse}
use Rattle.t7_base.specs.Outside.{Grew, Rose}
use Rattle.t7_base.proofs.Grown.{grew_as}
use Rattle.t7_feed.specs.Arrivals.{Terms}
use Rattle.t7_follow.specs.Following.{finished, followed, watching}
use Rattle.t7_follow.specs.Reports as member
use Rattle.t7_net.specs.Lines.{Bind, Casting}
use Rattle.t7_net.specs.Links.{LinkAsk, LinkSent}
use Rattle.t7_net.specs.declared.line.LineItem.{LineItem}
use Rattle.t7_net.specs.declared.link.LinkItem.{LinkItem}
use Rattle.t7_outcome.specs.declared.ending.Stop.TheVariants.{WriteFault}
use Rattle.t7_outcome.specs.Ending.{Ended}
use Rattle.t7_outcome.specs.Outcome.{Ends, FileSet, Outcome, Wrote}
use Rattle.t7_outcome.specs.Performing.{WroteSink}
use Rattle.t7_top.specs.Jobs.{started}
use Rattle.t7_top.specs.Moments.{IsReported, OfMember, outcome_as}
use Rattle.t7_top.specs.Network.{JobTook, Network, seen}
use Rattle.t7_top.specs.Words.{Feeds, Member}
use Rattle.t7_top.proofs.Growing.{grew_both}
use Rattle.t7_top.proofs.Reading.{sink_plain}
use Rattle.t7_top.proofs.Renaming.{ends_as, wrote_as}

-- it takes no file
pub followed_names : (terms : Terms) (count : ℕ) (receipts : List LineItem) → (followed terms count receipts).names ≡ []
followed_names terms count receipts = by_end (length receipts == count)
  where
    by_end : (all : Bool) → (if all then finished terms receipts else record { names = []; parts = watching terms receipts; end = None }).names ≡ []
    by_end true = refl
    by_end false = refl

pub member_sink : (o : Option FileSet) (old new : Network) (terms : Terms) (feeds : Feeds) (count : ℕ) (ended : Ended) (p q : Option (List ℕ)) (n m : ℕ)
    → Grew old.receipts new.receipts (λ receipts. Ends (followed terms count (reverse receipts)) ended)
    → Grew old.receipts new.receipts (λ receipts. Grew p q (Wrote member.IsReported (followed terms count (reverse receipts)) ended))
    → n ≤ m → (ended ≡ Err WriteFault → Rose n m)
    → JobTook (Member feeds count) old new (λ taken. WroteSink IsReported (started terms (Member feeds count) taken) ended o p q n m)
member_sink o old new terms feeds count ended p q n m ends wrote below fault =
    grew_both old.receipts new.receipts (λ receipts. Ends (followed terms count (reverse receipts)) ended)
    (λ receipts. Grew p q (Wrote member.IsReported (followed terms count (reverse receipts)) ended))
    (λ receipts. WroteSink IsReported (λ given. outcome_as OfMember (followed terms count (reverse receipts))) ended o p q n m) ends wrote
    (λ receipts end text.
    let plain : Outcome member.Moment = followed terms count (reverse receipts) in
    sink_plain o (outcome_as OfMember plain) ended p q n m (ends_as OfMember plain ended end)
    (grew_as p q (Wrote member.IsReported plain ended) (Wrote IsReported (outcome_as OfMember plain) ended) text
    (λ w one. wrote_as OfMember member.IsReported IsReported (λ moment lines shown. shown) plain ended w one)) below fault)

-- nothing but the lines is used, and nothing is cast
pub member_net : (asked : Option (List LinkAsk)) (events : Option (List LinkItem)) (sent : Option (List LinkSent)) (bound bound_now : Option (List Bind))
    (receipts receipts_now : Option (List LineItem)) (cast cast_now : Option (List Casting)) (moments : Option (List ℕ)) → cast_now ≡ cast
    → seen asked events sent bound_now receipts_now cast_now moments
    ≡ record (seen asked events sent bound receipts cast moments) { bound = bound_now; receipts = receipts_now }
member_net asked events sent bound bound_now receipts receipts_now cast cast_now moments same = ap (λ (c : Option (List Casting)). seen asked events sent bound_now receipts_now c moments) same
