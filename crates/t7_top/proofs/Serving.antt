-- The exchange on the network.
use Rattle.std.proofs.Common.{◌≡◌, ℕ, List, [], Option, Err, IfErr, refl, ◌∙◌, ap, arith, length}
use Rattle.t7_base.specs.Outside.{Grew}
use Rattle.t7_base.proofs.Grown.{grew_as, grew_nothing}
use Rattle.t7_feed.specs.Arrivals.{Terms}
use Rattle.t7_net.specs.Lines.{Bind, Casting}
use Rattle.t7_net.specs.Links.{LinkAsk, LinkSent}
use Rattle.t7_net.specs.declared.line.LineItem.{LineItem}
use Rattle.t7_net.specs.declared.link.LinkItem.{LinkItem}
use Rattle.t7_outcome.specs.declared.ending.Stop.TheVariants.{ReadFault, WriteFault, NetFault, Memory}
use Rattle.t7_outcome.specs.Ending.{Ended}
use Rattle.t7_outcome.specs.Outcome.{Ends, FileSet, Outcome, Wrote}
use Rattle.t7_outcome.specs.Performing.{WroteSink}
use Rattle.t7_outcome.proofs.Lines.{fronts_none}
use Rattle.t7_serve.specs.Clauses.{CastAt, OfServe, OfTakings, SentAt}
use Rattle.t7_serve.specs.Served.{Taking, done_by, served, takings}
use Rattle.t7_top.specs.Jobs.{started}
use Rattle.t7_top.specs.Moments.{IsReported, Moment}
use Rattle.t7_top.specs.Network.{JobTook, Network, seen, no_intake}
use Rattle.t7_top.specs.Using.{Sent}
use Rattle.t7_top.specs.Words.{Exchange, Feeds}
use Rattle.t7_top.proofs.Growing.{grew_both}
use Rattle.t7_top.proofs.Reading.{sink_plain}

-- an end, whatever the moments are
pub ends_other : {A B : Type 0} (plain : Outcome A) (other : Outcome B) (ended : Ended) → other.end ≡ plain.end → Ends plain ended → Ends other ended
ends_other plain other (Err ReadFault) same ends = tt
ends_other plain other (Err WriteFault) same ends = tt
ends_other plain other (Err NetFault) same ends = tt
ends_other plain other (Err Memory) same ends = tt
ends_other plain other ended same ends = same ∙ ends

-- nothing is written where nothing is due
wrote_nothing : (end : Option Ended) (ended : Ended) → Wrote IsReported (record { names = []; parts = []; end = end }) ended []
wrote_nothing end (Err ReadFault) = ([], [], fronts_none IsReported [], ([], refl), refl)
wrote_nothing end (Err WriteFault) = ([], fronts_none IsReported [], ([], refl))
wrote_nothing end (Err NetFault) = ([], [], fronts_none IsReported [], ([], refl), refl)
wrote_nothing end (Err Memory) = ([], [], fronts_none IsReported [], ([], refl), refl)
wrote_nothing end ended = ([], refl, refl)

no_write : (ended : Ended) → IfErr ended OfServe → ended ≡ Err WriteFault → ⊥
no_write (Err WriteFault) of is = of
no_write ended of is = let no : ⊥ = cc in no

-- what was taken with its moments
of_takings : (old new : Network) (P : List Taking → Type 0) (Q : List LinkItem → List ℕ → Type 0) → OfTakings old.events new.events old.moments new.moments P
    → ((events : List LinkItem) (moments : List ℕ) → P (takings events moments) → Q events moments) → Grew old.events new.events (λ events. Grew old.moments new.moments (Q events))
of_takings old new P Q took each =
    grew_as old.events new.events (λ events. Grew old.moments new.moments (λ moments. (length moments ≡ length events) × P (takings events moments)))
    (λ events. Grew old.moments new.moments (Q events)) took
    (λ events more. grew_as old.moments new.moments (λ moments. (length moments ≡ length events) × P (takings events moments)) (Q events) more (λ moments holds. each events moments holds.1))

pub served_sink : (o : Option FileSet) (old new : Network) (terms : Terms) (listen : List ℕ) (feeds : Feeds) (count : ℕ) (ended : Ended) (p : Option (List ℕ)) (n : ℕ)
    → OfTakings old.events new.events old.moments new.moments (λ taken. Ends (served {Moment = Unit {0}} terms count taken) ended) → IfErr ended OfServe
    → JobTook (Exchange listen feeds count) old new (λ taken. WroteSink IsReported (started terms (Exchange listen feeds count) taken) ended o p p n n)
served_sink o old new terms listen feeds count ended p n ends of =
    of_takings old new (λ taken. Ends (served {Moment = Unit {0}} terms count taken) ended)
    (λ events moments. WroteSink IsReported (λ given. served terms count (takings events moments)) ended o p p n n) ends
    (λ events moments end.
    let plain : Outcome Moment = served terms count (takings events moments) in
    sink_plain o plain ended p p n n (ends_other (served {Moment = Unit {0}} terms count (takings events moments)) plain ended refl end)
    (grew_nothing p (Wrote IsReported plain ended) (wrote_nothing plain.end ended)) (omega arith) (λ is. absurd (no_write ended of is)))

pub served_sent : (old new : Network) (terms : Terms) (listen : List ℕ) (feeds : Feeds) (count : ℕ) (ended : Ended)
    → OfTakings old.events new.events old.moments new.moments (λ taken. Grew old.sent new.sent (SentAt (done_by terms taken).sent ended))
    → OfTakings old.events new.events old.moments new.moments (λ taken. Grew old.cast new.cast (CastAt (done_by terms taken).cast ended))
    → JobTook (Exchange listen feeds count) old new (λ taken. Sent terms (Exchange listen feeds count) taken ended old new)
served_sent old new terms listen feeds count ended sent cast =
    grew_both old.events new.events
    (λ events. Grew old.moments new.moments (λ moments. (length moments ≡ length events) × Grew old.sent new.sent (SentAt (done_by terms (takings events moments)).sent ended)))
    (λ events. Grew old.moments new.moments (λ moments. (length moments ≡ length events) × Grew old.cast new.cast (CastAt (done_by terms (takings events moments)).cast ended)))
    (λ events. Grew old.moments new.moments (λ moments. Sent terms (Exchange listen feeds count) (record no_intake { events = events; moments = moments }) ended old new)) sent cast
    (λ events first second. grew_both old.moments new.moments
    (λ moments. (length moments ≡ length events) × Grew old.sent new.sent (SentAt (done_by terms (takings events moments)).sent ended))
    (λ moments. (length moments ≡ length events) × Grew old.cast new.cast (CastAt (done_by terms (takings events moments)).cast ended))
    (λ moments. Sent terms (Exchange listen feeds count) (record no_intake { events = events; moments = moments }) ended old new) first second
    (λ moments x y. (x.1, y.1)))

-- no receipt is taken
pub served_net : (asked : Option (List LinkAsk)) (events : Option (List LinkItem)) (sent : Option (List LinkSent)) (bound : Option (List Bind))
    (receipts receipts_now : Option (List LineItem)) (cast : Option (List Casting)) (moments : Option (List ℕ)) → receipts_now ≡ receipts
    → seen asked events sent bound receipts_now cast moments ≡ record (seen asked events sent bound receipts_now cast moments) { receipts = receipts }
served_net asked events sent bound receipts receipts_now cast moments same = ap (λ (r : Option (List LineItem)). seen asked events sent bound r cast moments) same
