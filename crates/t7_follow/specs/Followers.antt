-- What a member that follows the feed has at hand, and what its receipts make of it.
use Rattle.std.specs.Prelude.{◌≡◌, ℕ, ◌+◌, ◌≤◌, List, [], ◌∷◌, ◌++◌, Option, Result, Ok, Err, length, reverse}
use Rattle.t7_base.specs.Outside.{Begins, Grew}
use Rattle.t7_base.specs.declared.ids.Feed.{Feed}
use Rattle.t7_book.specs.Acts.{Act}
use Rattle.t7_feed.specs.Arrivals.{Delivery, Terms, arrivals}
use Rattle.t7_feed.specs.Sending.{AreActs}
use Rattle.t7_member.specs.Keeping.{Image, Keeps}
use Rattle.t7_net.specs.declared.line.LineItem.{LineItem}
use Rattle.t7_net.specs.declared.line.LineItem.TheVariants.{Datagram, Quiet}
use Rattle.t7_outcome.specs.declared.ending.Stop.{Stop}
use Rattle.t7_outcome.specs.declared.ending.Stop.TheVariants.{NetFault, WriteFault}
use Rattle.t7_outcome.specs.Ending.{Ended}
use Rattle.t7_outcome.specs.Outcome.{Ends, Part, Shows, Spelled, Wrote, text_of}
use Rattle.t7_follow.specs.Clauses.{TakesUpTo, WroteAll}
use Rattle.t7_follow.specs.Following.{followed, watching}
use Rattle.t7_follow.specs.Lines.{report_lines, tally_lines}
use Rattle.t7_follow.specs.Members.{Made, Takes, orders_of, state_of}
use Rattle.t7_follow.specs.Reports.{IsReported, StandsAt, Watched, delivered}

-- what contracts see of it: the member, the line that was printed last, and the number of datagrams that came
pub record Following : Type 0 where
  pub member : Image
  pub printed : List ℕ
  pub datagrams : ℕ

-- whatever an exchange did, the member keeps what it is to keep of these deliveries
abbrev pub KeepsAll : Terms → List Delivery → Image → Type 0
KeepsAll terms came member = (acts : List Act) → AreActs terms.listing acts → Keeps terms acts member (arrivals terms came)

-- these receipts, the newest of which stands first, brought it here
pub record Stands (terms : Terms) (receipts : List LineItem) (now : Following) : Type 0 where
  pub made : Made terms (delivered receipts) now.member
  pub keeps : KeepsAll terms (delivered receipts) now.member
  pub printed : StandsAt terms receipts now.printed
  pub count : now.datagrams ≡ length (delivered receipts)

-- what a datagram does to the member: it is delivered on its feed, and what the member kept before, it keeps with it
pub record TookDatagram (feed : Feed) (bytes : List ℕ) (old new : Image) : Type 0 where
  pub takes : Takes old.terms feed bytes old new
  pub keeps : (terms : Terms) (came : List Delivery) → KeepsAll terms came old → KeepsAll terms (record { feed = feed; bytes = bytes } ∷ came) new

-- what a receipt does: a datagram is delivered and counted
abbrev pub Took : List LineItem → Following → Following → Type 0
Took [] old new = new ≡ old
Took (Quiet ∷ others) old new = new ≡ old
Took (Datagram feed bytes ∷ others) old new = TookDatagram feed bytes old.member new.member × (new.datagrams ≡ old.datagrams + 1)

-- the lines behind the last receipt
abbrev pub final_lines : Image → List (List ℕ)
final_lines member = report_lines (state_of member) (orders_of member) ++ tally_lines member.tallies

-- a write fault cut off the end of the lines of these parts
abbrev pub WroteCut : {Moment : Type 0} → (Moment → List (List ℕ) → Type 0) → List (Part Moment) → List ℕ → Type 0
WroteCut Shown parts written = (lines : _) × Spelled Shown parts lines × Begins written (text_of lines)

-- What one receipt came to behind others: it was taken, and its line was written where it was due; or none was, or a write fault cut it off.
abbrev pub Stepped : {T : Type 0} → Terms → List LineItem → Following → Option (List ℕ) → Option (List ℕ) → Result T Stop → List LineItem → Type 0
Stepped terms before now old new (Ok done) taken =
    (item : LineItem) × (taken ≡ item ∷ []) × Stands terms (item ∷ before) now × Grew old new (WroteAll IsReported (Shows (Watched terms (item ∷ before)) ∷ []))
Stepped terms before now old new (Err NetFault) taken = (taken ≡ []) × (new ≡ old)
Stepped terms before now old new (Err WriteFault) taken =
    (item : LineItem) × (taken ≡ item ∷ []) × Grew old new (WroteCut IsReported (Shows (Watched terms (item ∷ before)) ∷ []))
Stepped terms before now old new (Err stop) taken = ⊥

-- What these receipts came to, of which so many were asked for.
abbrev pub Watches : {T : Type 0} → Terms → ℕ → Following → Option (List ℕ) → Option (List ℕ) → Result T Stop → List LineItem → Type 0
Watches terms count now old new (Ok done) receipts = (length receipts ≡ count) × Stands terms receipts now × Grew old new (WroteAll IsReported (watching terms receipts))
Watches terms count now old new (Err NetFault) receipts = (length receipts ≤ count) × Grew old new (WroteAll IsReported (watching terms receipts))
Watches terms count now old new (Err WriteFault) receipts = (length receipts ≤ count) × Grew old new (WroteCut IsReported (watching terms receipts))
Watches terms count now old new (Err stop) receipts = ⊥

-- the stops while receipts are taken
abbrev pub OfWatch : Stop → Type 0
OfWatch NetFault = Unit {0}
OfWatch WriteFault = Unit {0}
OfWatch _ = ⊥

-- What the command came to by these receipts, which stand in the order in which they were taken.
pub record Followed (terms : Terms) (count : ℕ) (ended : Ended) (old new : Option (List ℕ)) (receipts : List LineItem) : Type 0 where
  pub end : Ends (followed terms count (reverse receipts)) ended
  pub written : Grew old new (Wrote IsReported (followed terms count (reverse receipts)) ended)
  pub due : ended ≡ Err NetFault → Grew old new (WroteAll IsReported (watching terms (reverse receipts)))
  pub taken : TakesUpTo count ended receipts
