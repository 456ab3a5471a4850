-- What `exchange` asks for, takes and gives, and how it may be stopped.
use Rattle.std.specs.Prelude.{◌≡◌, ℕ, ◌≤◌, Bool, true, false, List, [], ◌∷◌, Option, Result, Ok, Err, length}
use Rattle.t7_base.specs.Outside.{Begins, Grew}
use Rattle.t7_base.specs.declared.ids.Feed.TheVariants.{LiveA, LiveB, SnapA, SnapB}
use Rattle.t7_net.specs.declared.link.LinkItem.{LinkItem}
use Rattle.t7_net.specs.Lines.{Bind, Casting}
use Rattle.t7_net.specs.Links.{LinkAsk, LinkSent, Listened}
use Rattle.t7_outcome.specs.declared.ending.Stop.{Stop}
use Rattle.t7_outcome.specs.declared.ending.Stop.TheVariants.{Memory, NetFault, TooLong}
use Rattle.t7_serve.specs.declared.command.Addresses.{Addresses}
use Rattle.t7_serve.specs.Fronts.{SentFront}
use Rattle.t7_serve.specs.Served.{Taking, takings}

-- the four feeds are bound for sending, each to its address
abbrev pub binds_of : Addresses → List Bind
binds_of addresses =
    record { feed = LiveA; address = addresses.live_a.now; listen = false }
    ∷ record { feed = LiveB; address = addresses.live_b.now; listen = false }
    ∷ record { feed = SnapA; address = addresses.snap_a.now; listen = false }
    ∷ record { feed = SnapB; address = addresses.snap_b.now; listen = false }
    ∷ []

-- the listen that was asked for at an end: it is the first thing, and succeeded but for a net fault
abbrev pub ListensAt : {T : Type 0} → List ℕ → Result T Stop → List LinkAsk → Type 0
ListensAt address (Err NetFault) asked = (made : Bool) × (asked ≡ Listened address made ∷ [])
ListensAt address ended asked = asked ≡ Listened address true ∷ []

-- the binds that were asked for at an end: all, of which a net fault may cut off the end
abbrev pub AsksFor : {T : Type 0} → List Bind → Result T Stop → List Bind → Type 0
AsksFor all (Err NetFault) asked = Begins asked all
AsksFor all ended asked = asked ≡ all

-- the events that were taken at an end: COUNT of them, or no more where it was stopped
abbrev pub TakesUpTo : {T : Type 0} → ℕ → Result T Stop → List LinkItem → Type 0
TakesUpTo count (Ok done) items = length items ≡ count
TakesUpTo count (Err stop) items = length items ≤ count

-- P of the events that were taken with their moments, of which each event has one, where the link and the clock tell them
abbrev pub OfTakings : Option (List LinkItem) → Option (List LinkItem) → Option (List ℕ) → Option (List ℕ) → (List Taking → Type 0) → Type 0
OfTakings events events_now given given_now P =
    Grew events events_now (λ items. Grew given given_now (λ moments. (length moments ≡ length items) × P (takings items moments)))

-- what was sent at an end: all that is due, of which a net fault or want of memory may cut off the end
abbrev pub SentAt : {T : Type 0} → List LinkSent → Result T Stop → List LinkSent → Type 0
SentAt due (Err NetFault) sent = SentFront due sent
SentAt due (Err Memory) sent = SentFront due sent
SentAt due ended sent = sent ≡ due

-- the same of what was cast
abbrev pub CastAt : {T : Type 0} → List Casting → Result T Stop → List Casting → Type 0
CastAt due (Err NetFault) cast = Begins cast due
CastAt due (Err Memory) cast = Begins cast due
CastAt due ended cast = cast ≡ due

-- the stops of `exchange`
abbrev pub OfServe : Stop → Type 0
OfServe NetFault = Unit {0}
OfServe TooLong = Unit {0}
OfServe Memory = Unit {0}
OfServe _ = ⊥

-- the stops of what an event does
abbrev pub OfTurn : Stop → Type 0
OfTurn NetFault = Unit {0}
OfTurn Memory = Unit {0}
OfTurn _ = ⊥
