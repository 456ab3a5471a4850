-- What the reports of a replay owe: the words of the headline, and those of the client's list.
use Rattle.std.specs.Prelude.{◌≡◌, ℕ, ◌≤◌, Bool, false, true, List, None, Some, length}
use Rattle.t7_base.specs.declared.public.Resting.{Resting}
use Rattle.t7_base.specs.Listing.{Listing}
use Rattle.t7_base.specs.Outside.{Begins}
use Rattle.t7_book.specs.Acts.{Act, commands_of}
use Rattle.t7_eti.specs.declared.response.Response.{Response}
use Rattle.t7_feed.specs.declared.State.{State}
use Rattle.t7_feed.specs.Arrivals.{Delivery, Terms, arrivals}
use Rattle.t7_feed.specs.Report.{Report}
use Rattle.t7_member.specs.Shown.{IsShownOf}
use Rattle.t7_orders.specs.Answers.{responses}
use Rattle.t7_client.specs.Fronts.{last_known}
use Rattle.t7_client.specs.Recovering.{is_recovered}
use Rattle.t7_dialog.specs.Reaching.{needed}
use Rattle.t7_report.specs.Gathered.{gathered_lines}
use Rattle.t7_replay.specs.Calling.{Calling}
use Rattle.t7_replay.specs.Lines.{report_lines}

-- what the report of a SHOW is about, by the lines so far: the table and the product, what the exchange did, what was delivered to the member, and
-- whether some of it was forged
pub record Showing : Type 0 where
  pub terms : Terms
  pub acts : List Act
  pub came : List Delivery
  pub forged : Bool

-- The lines of a SHOW are those of a state and of orders. Where all that was delivered so far is what the exchange sent, the state and the
-- orders are a Report of it: the number that is shown is supported by datagrams that came (a whole snapshot, and each message after it
-- up to that number), the orders are, one by one and in their priority, those of the exchange's book after that message, and the number
-- is never below what a whole snapshot and the messages after it, received within the stated window, support. Whatever was delivered,
-- forged bytes too, the state is one that a member may show of it: the number is supported, it is in sync exactly where it is the greatest
-- number that is known, and a message that is missing didn't come or came outside its window.
pub record IsShown (moment : Showing) (lines : List (List ℕ)) : Type 0 where
  pub state : State
  pub orders : List Resting
  pub printed : lines ≡ report_lines state orders
  pub report : moment.forged ≡ false → Report moment.terms moment.acts moment.came state orders
  pub shown : IsShownOf moment.terms.listing (arrivals moment.terms moment.came) state

-- what the report of a LIST is about, by the lines so far: the product, what the exchange did, what it has said to the client since the client's last
-- dial, and the client
pub record Gathering : Type 0 where
  pub listing : Listing
  pub acts : List Act
  pub said : List Response
  pub calling : Calling

-- The client's list is a front of the responses that the exchange has stored for its session, so each stands once, in the order of their numbers. Since its
-- dial the client has read the first of what the exchange said to it; and where it is recovered, the last answer among these says how many responses the exchange
-- had stored when it wrote that answer, and the list has as many, and all up to each recoverable response that the client read behind that answer.
pub record IsGathered (moment : Gathering) : Type 0 where
  pub front : Begins moment.calling.client.gathered (responses moment.listing (commands_of moment.acts) moment.calling.session)
  pub read : List Response
  pub first : Begins read moment.said
  pub whole : is_recovered moment.calling.client ≡ true → (known : ℕ) × (last_known read None ≡ Some known) × (known ≤ length moment.calling.client.gathered)
  pub since : is_recovered moment.calling.client ≡ true → (count : ℕ) × (needed read None ≡ Some count) × (count ≤ length moment.calling.client.gathered)

-- the lines of a LIST are those of such a list
pub record IsListed (moment : Gathering) (lines : List (List ℕ)) : Type 0 where
  pub printed : lines ≡ gathered_lines (is_recovered moment.calling.client) moment.calling.client.gathered
  pub gathered : IsGathered moment

-- what a report is about
pub data Moment : Type 0 where
  AtShow : (moment : Showing) → Moment
  AtList : (moment : Gathering) → Moment

-- what its lines owe
abbrev pub IsReported : Moment → List (List ℕ) → Type 0
IsReported (AtShow moment) lines = IsShown moment lines
IsReported (AtList moment) lines = IsListed moment lines
