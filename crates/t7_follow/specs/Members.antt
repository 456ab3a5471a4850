-- A member to which deliveries came.
use Rattle.std.specs.Prelude.{◌≡◌, ℕ, ◌+◌, List, [], ◌∷◌, Bool, true, false, ◌&&◌, MatchOption, is_none, if◌then◌else◌}
use Rattle.t7_base.specs.declared.ids.Feed.{Feed}
use Rattle.t7_base.specs.declared.ids.Feed.TheVariants.{LiveA, LiveB, SnapA, SnapB}
use Rattle.t7_base.specs.declared.public.Resting.{Resting}
use Rattle.t7_book.specs.Acts.{Act}
use Rattle.t7_eobi.specs.Faults.{fault_of}
use Rattle.t7_lines.specs.Gap.{no_tallies, raised}
use Rattle.t7_feed.specs.declared.State.{State}
use Rattle.t7_feed.specs.Arrivals.{Delivery, Terms, arrivals, reading_of}
use Rattle.t7_feed.specs.Report.{Report}
use Rattle.t7_feed.specs.Sending.{AreActs, Genuine}
use Rattle.t7_member.specs.Keeping.{Image, Keeps}
use Rattle.t7_member.specs.Shown.{IsShownOf}
use Rattle.t7_member.specs.Status.{shown_of, status_of}
use Rattle.t7_member.specs.Steps.{Delivers}

-- what a member shows: its state
abbrev pub state_of : Image → State
state_of member = status_of member.base member.refused member.known

-- and the orders of its book
abbrev pub orders_of : Image → List Resting
orders_of member = shown_of member.base member.list

-- a member that nothing came to
pub record IsNew (terms : Terms) (member : Image) : Type 0 where
  pub terms_are : member.terms ≡ terms
  pub tallies : member.tallies ≡ no_tallies
  pub bad : member.bad ≡ 0
  pub keeps : (acts : List Act) → Keeps terms acts member []

-- What a delivery makes of a member: one that is accepted is taken and counted on its feed; one that is refused is counted as bad, and changes nothing else.
abbrev pub Takes : Terms → Feed → List ℕ → Image → Image → Type 0
Takes terms feed bytes old new = MatchOption (fault_of (reading_of terms feed) bytes) (Delivers feed bytes old new) (λ fault. new ≡ record old { bad = raised old.bad })

-- these deliveries, the newest of which stands first, made this of a member that nothing had come to
abbrev pub Made : Terms → List Delivery → Image → Type 0
Made terms [] member = IsNew terms member
Made terms (delivery ∷ before) member = (old : Image) × Made terms before old × Takes terms delivery.feed delivery.bytes old member

-- What a member shows after these deliveries. Whatever acts an exchange did, where the deliveries are what it sent, the state and the orders are a Report of
-- them: the number that is shown is supported by datagrams that came (a whole snapshot, and each message after it up to that number), the orders are, one by
-- one and in their priority, those of the exchange's book after that message, and the number is never below what a whole snapshot and the messages after
-- it, received within the stated window, support. Whatever was delivered, forged bytes too, the state is one that a member may show of it. And the member,
-- with its counts, is what the deliveries made of a new one.
pub record IsShown (terms : Terms) (came : List Delivery) (member : Image) : Type 0 where
  pub report : (acts : List Act) → AreActs terms.listing acts → Genuine terms acts came → Report terms acts came (state_of member) (orders_of member)
  pub state : IsShownOf terms.listing (arrivals terms came) (state_of member)
  pub made : Made terms came member

-- two feeds are the same
abbrev pub same_feed : Feed → Feed → Bool
same_feed LiveA LiveA = true
same_feed LiveB LiveB = true
same_feed SnapA SnapA = true
same_feed SnapB SnapB = true
same_feed _ _ = false

-- how many of these deliveries came on a feed and were accepted
abbrev pub accepted_on : Terms → Feed → List Delivery → ℕ
accepted_on terms feed [] = 0
accepted_on terms feed (delivery ∷ before) =
    if same_feed feed delivery.feed && is_none (fault_of (reading_of terms delivery.feed) delivery.bytes) then accepted_on terms feed before + 1 else accepted_on terms feed before
