-- What a gatherer does at each event of its link.
use Rattle.std.specs.Prelude.{ℕ, ◌+◌, List, [], ◌∷◌, ◌++◌, Bool, true, false, ◌==◌, nat_lt, length, Option, None, Some, Ok, Err, if◌then◌else◌}
use Rattle.t7_eti.specs.declared.reason.Reason.{Reason}
use Rattle.t7_eti.specs.Reasons.{reason_number}
use Rattle.t7_client.specs.Hearing.{Heard, heard}
use Rattle.t7_client.specs.Recovering.{Recovery, cut, is_recovered}
use Rattle.t7_net.specs.declared.link.LinkItem.{LinkItem}
use Rattle.t7_net.specs.declared.link.LinkItem.TheVariants as item
use Rattle.t7_outcome.specs.declared.ending.Finish.TheVariants.{End}
use Rattle.t7_outcome.specs.declared.ending.PeerWhy.TheVariants.{Byte, Closed, Reject}
use Rattle.t7_outcome.specs.declared.ending.Stop.TheVariants.{Peer, TooLong}
use Rattle.t7_outcome.specs.Ending.{Ended}

-- what an event says of one connection: bytes came, the other side closed it, or nothing
pub data News : Type 0 where
  Piece : (bytes : List ℕ) → News
  Shut : News
  Nothing : News

-- what an event says of the connection of this number
abbrev pub news_on : ℕ → LinkItem → News
news_on conn (item.Bytes other bytes) = if other == conn then Piece bytes else Nothing
news_on conn (item.Closed other) = if other == conn then Shut else Nothing
news_on conn (item.Opened other) = Nothing
news_on conn item.Quiet = Nothing

-- What a gatherer did at an event: the client, of which nothing waits to be sent; the bytes that were sent; and how the run ended there, if it did.
pub record Turn : Type 0 where
  pub client : Recovery
  pub sent : List ℕ
  pub ended : Option Ended

-- A close of the connection ends the run: of the ends that are looked for behind an event it is the last.
abbrev pub closed_end : Bool → Option Ended
closed_end true = Some (Err (Peer Closed))
closed_end false = None

-- That all is recovered ends it before that.
abbrev pub recovered_end : Recovery → Option Ended → Option Ended
recovered_end client later = if is_recovered client then Some (Ok (End (length client.gathered))) else later

-- A Reject that was read ends it before both.
abbrev pub rejected_end : Option Reason → Option Ended → Option Ended
rejected_end None later = later
rejected_end (Some reason) later = Some (Err (Peer (Reject (reason_number reason))))

-- A place from which the bytes are no responses, counted in the bytes since the dial, ends it before all of them.
abbrev pub misfit_end : Option ℕ → Option Ended → Option Ended
misfit_end None later = later
misfit_end (Some place) later = Some (Err (Peer (Byte place)))

-- the end behind an event, if there is one: the first of these
abbrev pub end_behind : Option ℕ → Recovery → Bool → Option Ended
end_behind misfit client closed = misfit_end misfit (rejected_end client.rejected (recovered_end client (closed_end closed)))

-- all that the client has queued is sent
abbrev pub flushed : Recovery → Option Ended → Turn
flushed client ended = record { client = record client { queue = [] }; sent = client.queue; ended = ended }

-- with these bytes the connection gave more than 64 MiB
abbrev pub is_too_long : Recovery → List ℕ → Bool
is_too_long client bytes = nat_lt 67_108_864 (client.treated + length client.rest + length bytes)

-- the client that bytes leave, which is cut where they are no responses
abbrev pub cut_at : Option ℕ → Recovery → Recovery
cut_at None client = client
cut_at (Some place) client = cut client

-- the turn of bytes that were heard
abbrev pub turn_heard : Heard → Turn
turn_heard at = flushed (cut_at at.misfit at.client) (end_behind at.misfit (cut_at at.misfit at.client) false)

-- The turn of such news: bytes are heard, but those that bring the connection above 64 MiB end the run before that.
abbrev pub turn_by : News → Recovery → Turn
turn_by (Piece bytes) client =
    if is_too_long client bytes then record { client = client; sent = []; ended = Some (Err TooLong) } else turn_heard (heard client bytes)
turn_by Shut client = flushed client (end_behind None client true)
turn_by Nothing client = flushed client (end_behind None client false)

-- the turn of an event
abbrev pub turn_of : ℕ → LinkItem → Recovery → Turn
turn_of conn event client = turn_by (news_on conn event) client

-- a turn behind others, unless one of them ended the run
abbrev pub turn_behind : Turn → Option Ended → Turn → Turn
turn_behind before None now = record now { sent = before.sent ++ now.sent }
turn_behind before (Some ended) now = before

-- The turns of a client that has dialed, on the connection of this number: first what the dial queued is sent, and then each event happens in its
-- turn. Of the events the newest stands first.
abbrev pub turns : ℕ → Recovery → List LinkItem → Turn
turns conn client [] = flushed client None
turns conn client (event ∷ before) =
    turn_behind (turns conn client before) (turns conn client before).ended (turn_of conn event (turns conn client before).client)
