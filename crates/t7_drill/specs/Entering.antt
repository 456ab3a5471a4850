-- What a request does at the exchange of the drill.
use Rattle.std.specs.Prelude.{ℕ, ◌+◌, ◌||◌, Bool, false, if◌then◌else◌, is_some, List, [], ◌∷◌, length, map, drop}
use Rattle.t7_book.specs.declared.command.Command.{Command}
use Rattle.t7_book.specs.Acts.{Act, Accepts}
use Rattle.t7_eti.specs.declared.request.Request.{Request}
use Rattle.t7_eti.specs.Saying.{request_bytes}
use Rattle.t7_entry.specs.State.{Reply, closes, sends}
use Rattle.t7_exchange.specs.Handed.{refused_for}
use Rattle.t7_entry.specs.Days.{Day, day_after, due}
use Rattle.t7_entry.specs.Events.{Bytes}
use Rattle.t7_packets.specs.Packing.{datagram_bytes}

-- the accepted commands
abbrev pub accepted_in : Day → List Command
accepted_in day = day.state.core.accepted

-- a request comes on a connection
abbrev pub day_asked : ℕ → Request → Day → Day
day_asked conn request day = day_after day (Bytes conn (request_bytes day.setting.layouts request) 0)

-- the live datagrams that are due
abbrev pub due_bytes : Day → List (List ℕ)
due_bytes day = map (datagram_bytes day.setting.layouts day.setting.listing.segment) (due day)

-- all that waits is handed out
abbrev pub handed : Day → Day
handed day = record day { waiting = []; untold = []; live = day.live + length (due day) }

-- what is accepted beyond these
abbrev pub newly : Day → Day → List Act
newly old new = map Accepts (drop (length (accepted_in old)) (accepted_in new))

-- a reply is a Reject
abbrev pub is_reject : Reply → Bool
is_reject (sends conn response) = is_some (refused_for response)
is_reject (closes conn) = false

-- one of the replies is
abbrev pub some_reject : List Reply → Bool
some_reject [] = false
some_reject (reply ∷ replies) = is_reject reply || some_reject replies

-- 1 where one of the replies is a Reject, else 0
abbrev pub rejects_in : List Reply → ℕ
rejects_in replies = if some_reject replies then 1 else 0
