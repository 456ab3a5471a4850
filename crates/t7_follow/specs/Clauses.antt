-- What `member` asks of the lines, and how it may be stopped.
use Rattle.std.specs.Prelude.{◌≡◌, ℕ, ◌≤◌, List, [], ◌∷◌, Result, Ok, Err, length, true}
use Rattle.t7_base.specs.Outside.{Begins}
use Rattle.t7_base.specs.declared.ids.Feed.TheVariants.{LiveA, LiveB, SnapA, SnapB}
use Rattle.t7_net.specs.declared.line.LineItem.{LineItem}
use Rattle.t7_net.specs.Lines.{Bind}
use Rattle.t7_outcome.specs.declared.ending.Stop.{Stop}
use Rattle.t7_outcome.specs.declared.ending.Stop.TheVariants.{Memory, NetFault, WriteFault}
use Rattle.t7_outcome.specs.Outcome.{Part, Spelled, text_of}
use Rattle.t7_follow.specs.declared.command.Addresses.{Addresses}

-- the four feeds are bound for listening, each to its address
abbrev pub binds_of : Addresses → List Bind
binds_of addresses =
    record { feed = LiveA; address = addresses.live_a.now; listen = true }
    ∷ record { feed = LiveB; address = addresses.live_b.now; listen = true }
    ∷ record { feed = SnapA; address = addresses.snap_a.now; listen = true }
    ∷ record { feed = SnapB; address = addresses.snap_b.now; listen = true }
    ∷ []

-- the binds that were asked at an end: all, of which a net fault may cut off the end
abbrev pub AsksFor : {T : Type 0} → List Bind → Result T Stop → List Bind → Type 0
AsksFor all (Err NetFault) asked = Begins asked all
AsksFor all ended asked = asked ≡ all

-- the receipts that were taken at an end: COUNT of them, or no more where it was stopped
abbrev pub TakesUpTo : {T : Type 0} → ℕ → Result T Stop → List LineItem → Type 0
TakesUpTo count (Ok done) receipts = length receipts ≡ count
TakesUpTo count (Err stop) receipts = length receipts ≤ count

-- the lines of these parts were written whole
abbrev pub WroteAll : {Moment : Type 0} → (Moment → List (List ℕ) → Type 0) → List (Part Moment) → List ℕ → Type 0
WroteAll Shown parts written = (lines : _) × Spelled Shown parts lines × (written ≡ text_of lines)

-- the stops of `member`
abbrev pub OfFollow : Stop → Type 0
OfFollow NetFault = Unit {0}
OfFollow WriteFault = Unit {0}
OfFollow Memory = Unit {0}
OfFollow _ = ⊥
