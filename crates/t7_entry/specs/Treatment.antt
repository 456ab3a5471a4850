-- What one whole frame does.
use Rattle.std.specs.Prelude.{ℕ, ◌+◌, ◌==◌, Bool, false, not, ◌&&◌, if◌then◌else◌, is_some, List, [], ◌∷◌, ◌++◌, length, Option, Some, None, Result, Ok, Err, max}
use Rattle.std.specs.List.{list_any}
use Rattle.t7_entry.specs.ByNumber.{remove, keys}
use Rattle.t7_eti.specs.declared.reason.Reason.{Reason}
use Rattle.t7_eti.specs.declared.reason.Reason.TheVariants.{UnknownSession, SessionInUse, BadRange}
use Rattle.t7_eti.specs.declared.request.Request.{Request}
use Rattle.t7_eti.specs.declared.request.Request.TheVariants as request
use Rattle.t7_eti.specs.declared.response.Kept.{Kept}
use Rattle.t7_eti.specs.declared.response.Response.{Response}
use Rattle.t7_eti.specs.declared.response.Response.TheVariants as response
use Rattle.t7_eti.specs.Requests.{request_number}
use Rattle.t7_book.specs.declared.command.Command.{Command}
use Rattle.t7_book.specs.Steps.{messages, steps}
use Rattle.t7_session.specs.declared.session.Step.{Step}
use Rattle.t7_session.specs.declared.session.Step.TheVariants as step
use Rattle.t7_session.specs.Heartbeats.{interval_of}
use Rattle.t7_session.specs.Steps.{frame_step}
use Rattle.t7_orders.specs.declared.response.Numbered.{Numbered}
use Rattle.t7_orders.specs.Answers.{answers_of, numbered, responses, stored}
use Rattle.t7_orders.specs.Judged.{judged}
use Rattle.t7_recover.specs.Ranges.{is_bad_range, range_of}
use Rattle.t7_entry.specs.State.{Core, Line, Outcome, Setting, and_then, book_of, closes, line_of, pure, replies, sends, tells, with_line}

-- a response goes out on a connection, which notes the moment
abbrev pub send_at : ℕ → ℕ → Response → Core → Option Line → Outcome
send_at moment conn response core (Some line) =
    record { core = with_line core conn (record line { sent = max line.sent moment }); doings = replies (sends conn response) ∷ [] }
send_at moment conn response core None = pure core

-- a response goes out on a connection, where that is open
unfoldable pub send : ℕ → ℕ → Response → Core → Outcome
send moment conn response core = send_at moment conn response core (line_of core conn)

-- a connection is closed; its session and its bytes are dropped
unfoldable pub close : ℕ → Core → Outcome
close conn core = record { core = record { accepted = core.accepted; lines = remove core.lines conn }; doings = replies (closes conn) ∷ [] }

-- a Reject that closes the connection
unfoldable pub refuse : ℕ → ℕ → Option ℕ → Reason → Core → Outcome
refuse moment conn seq reason core = and_then (send moment conn (response.Reject seq reason) core) (close conn)

-- a line holds a session
abbrev pub holds : ℕ → Option ℕ → Bool
holds session (Some s) = session == s
holds session None = false

-- the session of a line, if there is one
abbrev pub session_at : Option Line → Option ℕ
session_at (Some line) = line.session
session_at None = None

-- the session of a connection, if it has one
abbrev pub session_of : Core → ℕ → Option ℕ
session_of core conn = session_at (line_of core conn)

-- the first of these connections that holds a session
abbrev pub holder_among : ℕ → Core → List ℕ → Option ℕ
holder_among session core [] = None
holder_among session core (conn ∷ conns) = if holds session (session_of core conn) then Some conn else holder_among session core conns

-- the connection that holds a session, if one does
unfoldable pub holder : ℕ → Core → Option ℕ
holder session core = holder_among session core (keys core.lines)

-- a stored response goes out where a connection holds its session
abbrev pub deliver_at : ℕ → Response → Core → Option ℕ → Outcome
deliver_at moment response core (Some conn) = send moment conn response core
deliver_at moment response core None = pure core

-- numbered responses go out in order
unfoldable pub deliver : ℕ → List Numbered → Core → Outcome
deliver moment [] core = pure core
deliver moment (n ∷ more) core =
    and_then (deliver_at moment (response.Kept n.number n.what) core (holder n.session core)) (deliver moment more)

-- a command is accepted: its messages are told, and its responses are stored and go out
unfoldable pub accept : Setting → ℕ → Command → Core → Outcome
accept setting moment command core =
    let book = book_of setting core.accepted in
    and_then
    (record { core = record { accepted = core.accepted ++ command ∷ []; lines = core.lines }; doings = tells (messages (steps book command)) ∷ [] })
    (deliver moment (numbered (stored setting.listing core.accepted) (answers_of book command)))

-- the line after a request that it was right to make: where a session is logged on, a request with a number uses it
abbrev pub counted : Line → Request → Line
counted line asked = record line { next = if is_some line.session && is_some (request_number asked) then line.next + 1 else line.next }

-- an order request: its command is accepted, or a Reject names the first failing test
abbrev pub ordered : Setting → ℕ → ℕ → Option ℕ → Core → Result Command Reason → Outcome
ordered setting moment conn seq core (Ok command) = accept setting moment command core
ordered setting moment conn seq core (Err reason) = send moment conn (response.Reject seq reason) core

-- stored responses from a number on, one after another
unfoldable pub send_again : ℕ → ℕ → ℕ → List Kept → Core → Outcome
send_again moment conn number [] core = pure core
send_again moment conn number (what ∷ rest) core = and_then (send moment conn (response.Kept number what) core) (send_again moment conn (number + 1) rest)

-- the stored responses of a range, behind an answer that says how many they are, their last number, and how many there are in all
abbrev pub send_range : ℕ → ℕ → ℕ → ℕ → ℕ → List Kept → Core → Outcome
send_range moment conn seq after upto list core =
    let range = range_of list after upto in
    if is_bad_range list after upto then send moment conn (response.Reject (Some seq) BadRange) core else
    and_then (send moment conn (response.Resent seq (length range) (after + length range) (length list)) core)
    (send_again moment conn (after + 1) range)

-- a logon, where the connection has no session yet
abbrev pub log_on : Setting → ℕ → ℕ → Line → Core → ℕ → ℕ → ℕ → Outcome
log_on setting moment conn line core seq heart session =
    if not (list_any (λ s. s == session) setting.listing.sessions) then refuse moment conn (Some seq) UnknownSession core else
    if is_some (holder session core) then refuse moment conn (Some seq) SessionInUse core else
    let there : Line = record line { session = Some session; heart = interval_of heart } in
    send moment conn (response.Logon seq (interval_of heart)) (with_line core conn (counted there (request.Logon seq heart session)))

-- what a session asks for its orders and its responses
abbrev pub serve : Setting → ℕ → ℕ → Core → Request → Option ℕ → Outcome
serve setting moment conn core asked None = pure core
serve setting moment conn core (request.Resend seq after upto) (Some session) = send_range moment conn seq after upto (responses setting.listing core.accepted session) core
serve setting moment conn core asked (Some session) =
    ordered setting moment conn (request_number asked) core (judged setting.listing (book_of setting core.accepted) session (length core.accepted) moment asked)

-- a request that passes the tests of its connection
abbrev pub answer : Setting → ℕ → ℕ → Line → Core → Request → Outcome
answer setting moment conn line core (request.Logon seq heart session) = log_on setting moment conn line core seq heart session
answer setting moment conn line core (request.Logout seq) = and_then (send moment conn (response.Logout seq) core) (close conn)
answer setting moment conn line core request.Heartbeat = pure core
answer setting moment conn line core asked = serve setting moment conn (with_line core conn (counted line asked)) asked line.session

-- a frame, by what the connection makes of it
abbrev pub treat_step : Setting → ℕ → ℕ → Line → Core → Step → Outcome
treat_step setting moment conn line core step.NotYet = pure core
treat_step setting moment conn line core (step.Refuse seq reason) = refuse moment conn seq reason core
treat_step setting moment conn line core (step.Ask asked) = answer setting moment conn line core asked

-- a frame on a connection, if it is open
abbrev pub treat_at : Setting → ℕ → ℕ → List ℕ → Core → Option Line → Outcome
treat_at setting moment conn frame core (Some line) = treat_step setting moment conn line core (frame_step setting.layouts line.session line.next frame)
treat_at setting moment conn frame core None = pure core

-- one whole frame; on a connection that isn't open, nothing
unfoldable pub treat : Setting → ℕ → ℕ → List ℕ → Core → Outcome
treat setting moment conn frame core = treat_at setting moment conn frame core (line_of core conn)
