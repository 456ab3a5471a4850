-- What the calls of a gatherer come to.
use Rattle.std.specs.Prelude.{◌≡◌, ℕ, ◌+◌, ◌≤◌, ◌⊎◌, List, [], ◌∷◌, ◌++◌, Bool, true}
use Rattle.std.specs.Prelude.{false, ◌==◌, if◌then◌else◌, length, take, Option, None, Some, Result, Ok, Err}
use Rattle.t7_base.specs.Outside.{Begins, Grew}
use Rattle.t7_client.specs.Hearing.{heard}
use Rattle.t7_client.specs.Recovering.{Recovery}
use Rattle.t7_net.specs.Links.{Gave, LinkSent}
use Rattle.t7_net.specs.declared.link.LinkEvent.{LinkEvent}
use Rattle.t7_net.specs.declared.link.LinkEvent.TheVariants as event
use Rattle.t7_net.specs.declared.link.LinkItem.{LinkItem}
use Rattle.t7_outcome.specs.declared.ending.Finish.{Finish}
use Rattle.t7_outcome.specs.declared.ending.Stop.{Stop}
use Rattle.t7_outcome.specs.declared.ending.Stop.TheVariants.{Memory, NetFault, Peer, TooLong, Unfinished}
use Rattle.t7_outcome.specs.Ending.{Ended}
use Rattle.t7_gather.specs.Clauses.{EndsBy, SentBy, SentFront, SentOn, TakesUpTo}
use Rattle.t7_gather.specs.Turns.{News, Nothing, Piece, Shut, cut_at, is_too_long, turn_of, turns}

-- The connection lasts: the client has dialed and was not cut, and all bytes that came are counted, which are at most 64 MiB.
pub record IsGoing (client : Recovery) (came : ℕ) : Type 0 where
  pub dialed : client.dialed ≡ true
  pub counted : came ≡ client.treated + length client.rest
  pub few : came ≤ 67_108_864

-- what a call of `next` found says of the connection of this number
abbrev pub news_in : ℕ → LinkEvent → List ℕ → News
news_in conn (event.Bytes other count) into = if other == conn then Piece (take count into) else Nothing
news_in conn (event.Closed other) into = if other == conn then Shut else Nothing
news_in conn (event.Opened other) into = Nothing
news_in conn event.Quiet into = Nothing
news_in conn event.Failed into = Nothing

-- the news are that the connection was closed
abbrev pub is_shut : News → Bool
is_shut (Piece bytes) = false
is_shut Shut = true
is_shut Nothing = false

-- Bytes were heard, and the answer is the place from which they are no responses; or they are too many, or memory was wanting.
abbrev pub Hears : Recovery → List ℕ → Recovery → Result (Option ℕ) Stop → Type 0
Hears old bytes new (Ok misfit) =
    (is_too_long old bytes ≡ false) × (misfit ≡ (heard old bytes).misfit) × (new ≡ cut_at misfit (heard old bytes).client)
Hears old bytes new (Err TooLong) = (is_too_long old bytes ≡ true) × (new ≡ old)
Hears old bytes new (Err Memory) = Unit {0}
Hears old bytes new (Err stop) = ⊥

-- news other than bytes leave the client as it is
abbrev pub Meets : News → Recovery → Recovery → Result (Option ℕ) Stop → Type 0
Meets (Piece bytes) old new answer = Hears old bytes new answer
Meets Shut old new answer = (answer ≡ Ok None) × (new ≡ old)
Meets Nothing old new answer = (answer ≡ Ok None) × (new ≡ old)

-- how a call answers with an end: with none yet, with one, or with the stop that it is
abbrev pub answered : Option Ended → Result (Option Finish) Stop
answered None = Ok None
answered (Some (Ok finish)) = Ok (Some finish)
answered (Some (Err stop)) = Err stop

-- The next piece of what is queued was sent, or its front before a fault.
abbrev pub SendsNext : {T : Type 0} → ℕ → List ℕ → List ℕ → Result T Stop → List LinkSent → Type 0
SendsNext conn queue left (Ok done) sent = (piece : List ℕ) × (sent ≡ Gave conn piece ∷ []) × (queue ≡ piece ++ left)
SendsNext conn queue left (Err stop) sent = (piece : List ℕ) × (sent ≡ Gave conn piece ∷ []) × Begins piece queue

-- All that is queued was sent, or its front before a fault.
abbrev pub Sends : {T : Type 0} → ℕ → List ℕ → Result T Stop → List LinkSent → Type 0
Sends conn queue (Ok done) sent = SentOn conn queue sent
Sends conn queue (Err stop) sent = SentFront conn queue sent

-- P of the events that a link gave, and Q of them and of what was sent then
abbrev pub OnLink : (events events_now : Option (List LinkItem)) (sent sent_now : Option (List LinkSent)) → (List LinkItem → Type 0)
    → (List LinkItem → List LinkSent → Type 0) → Type 0
OnLink events events_now sent sent_now P Q = Grew events events_now (λ taken. P taken × Grew sent sent_now (Q taken))

-- An event happened, and the answer is the end that it brings.
pub record IsTurned (conn : ℕ) (client now : Recovery) (answer : Result (Option Finish) Stop) (taken : List LinkItem) : Type 0 where
  pub event : LinkItem
  pub one : taken ≡ event ∷ []
  pub leaves : now ≡ (turn_of conn event client).client
  pub answers : answer ≡ answered (turn_of conn event client).ended

-- a fault of the link, or want of memory
abbrev pub IsFault : {T : Type 0} → Result T Stop → Type 0
IsFault answer = (answer ≡ Err NetFault) ⊎ (answer ≡ Err Memory)

-- What a call that takes an event came to: one happened, or a fault stopped it before or behind one.
abbrev pub Stepped : ℕ → Recovery → Recovery → Result (Option Finish) Stop → List LinkItem → Type 0
Stepped conn client now answer taken = IsTurned conn client now answer taken ⊎ (IsFault answer × (length taken ≤ 1))

-- what is to be sent at such an event
abbrev pub due_at : ℕ → Recovery → List LinkItem → List ℕ
due_at conn client [] = []
due_at conn client (event ∷ more) = (turn_of conn event client).sent

-- what is to be sent at such an event was sent, but for a fault
abbrev pub SentAt : ℕ → Recovery → Result (Option Finish) Stop → List LinkItem → List LinkSent → Type 0
SentAt conn client answer taken sent = SentBy conn (due_at conn client taken) answer sent

-- What all these events came to, the newest of which stands first.
pub record Recovers (count conn : ℕ) (client now : Recovery) (ended : Ended) (events : List LinkItem) : Type 0 where
  pub end : EndsBy count conn client events ended
  pub taken : TakesUpTo count conn client events
  pub at_end : (finish : Finish) → ended ≡ Ok finish → (now ≡ (turns conn client events).client) × ((turns conn client events).ended ≡ Some (Ok finish))

-- the stops while events are taken
abbrev pub OfTurns : Stop → Type 0
OfTurns NetFault = Unit {0}
OfTurns Memory = Unit {0}
OfTurns TooLong = Unit {0}
OfTurns (Peer why) = Unit {0}
OfTurns (Unfinished gathered) = Unit {0}
OfTurns _ = ⊥
