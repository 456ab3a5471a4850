-- Order entry over events: whole frames in whatever pieces they come, ticks, and the exchange's own clearings.
use Rattle.std.specs.Prelude.{ℕ, ◌==◌, nat_lt, nat_le, Bool, true, false, ◌&&◌, ◌||◌, if◌then◌else◌, ℤ, List, [], ◌∷◌, ◌++◌, length, map, Option, Some, None, max}
use Rattle.t7_entry.specs.ByNumber.{ByNumber, get, insert, remove, contains_key, keys, len}
use Rattle.t7_frames.specs.Frames.{Front, whole, not_yet, bad_length, front_of}
use Rattle.t7_frames.specs.Split.{split_of}
use Rattle.t7_eti.specs.declared.reason.Reason.TheVariants.{BadLength}
use Rattle.t7_eti.specs.declared.response.Response.TheVariants as response
use Rattle.t7_eti.specs.Saying.{response_bytes}
use Rattle.t7_layout.specs.Layouts.{Layout}
use Rattle.t7_book.specs.declared.command.Command.{Command}
use Rattle.t7_book.specs.declared.command.Command.TheVariants as command
use Rattle.t7_session.specs.declared.session.Beat.{Beat}
use Rattle.t7_session.specs.declared.session.Beat.TheVariants as beat
use Rattle.t7_session.specs.Heartbeats.{beat_of, is_empty}
use Rattle.t7_orders.specs.Judged.{is_listed}
use Rattle.t7_entry.specs.State.{Core, Doing, Input, Line, Outcome, Reply, Setting, State, and_then, closes, fresh_input, fresh_line, held_of, line_of, pure, replies, sends, start, tells, with_line}
use Rattle.t7_entry.specs.Treatment.{accept, close, refuse, send, treat}

-- frames, one after another
unfoldable pub treat_all : Setting → ℕ → ℕ → List (List ℕ) → Core → Outcome
treat_all setting moment conn [] core = pure core
treat_all setting moment conn (frame ∷ frames) core = and_then (treat setting moment conn frame core) (treat_all setting moment conn frames)

-- the length at the front is none that a frame may have
abbrev pub is_bad : Front → Bool
is_bad (bad_length n) = true
is_bad (whole frame) = false
is_bad not_yet = false

-- a Reject for a bad length, where the connection is open
abbrev pub refuse_open : ℕ → ℕ → Core → Option Line → Outcome
refuse_open moment conn core (Some line) = refuse moment conn None BadLength core
refuse_open moment conn core None = pure core

-- a bad length behind the last frame
unfoldable pub end_frames : ℕ → ℕ → List ℕ → Core → Outcome
end_frames moment conn rest core = if is_bad (front_of rest) then refuse_open moment conn core (line_of core conn) else pure core

-- all that stands in these bytes
unfoldable pub treat_bytes : Setting → ℕ → ℕ → List ℕ → Core → Outcome
treat_bytes setting moment conn bytes core =
    and_then (treat_all setting moment conn (split_of bytes).frames core) (end_frames moment conn (split_of bytes).rest)

-- what has come on a connection: nothing, where it was closed
abbrev pub settled_at : ByNumber Input → ℕ → Input → Option Line → ByNumber Input
settled_at inputs conn input (Some line) = insert inputs conn input
settled_at inputs conn input None = remove inputs conn

-- what has come on the connections once one was treated: nothing on it, where it was closed
abbrev pub settled : ByNumber Input → ℕ → Input → Core → ByNumber Input
settled inputs conn input core = settled_at inputs conn input (line_of core conn)

-- what an event leaves, and what was done
pub record Result : Type 0 where
  pub state : State
  pub doings : List Doing

-- nothing is done
abbrev pub unchanged : State → Result
unchanged state = record { state = state; doings = [] }

-- A piece comes on an open connection: it stands behind the untreated bytes, of which each whole frame is treated. Where it isn't empty
-- this is the last receipt.
abbrev pub bytes_at : Setting → ℕ → ℕ → List ℕ → State → Option Input → Result
bytes_at setting moment conn piece state (Some input) =
    let all = input.untreated ++ piece in
    let outcome = treat_bytes setting moment conn all state.core in
    let now : Input = record { untreated = (split_of all).rest; received = if is_empty piece then input.received else max input.received moment } in
    record { state = record { core = outcome.core; inputs = settled state.inputs conn now outcome.core }; doings = outcome.doings }
bytes_at setting moment conn piece state None = unchanged state

-- a piece comes on a connection, if it is open
unfoldable pub bytes : Setting → ℕ → ℕ → List ℕ → State → Result
bytes setting moment conn piece state = bytes_at setting moment conn piece state (get state.inputs conn)

-- a connection does what the heartbeat rule wants
abbrev pub do_beat : ℕ → ℕ → Core → Beat → Outcome
do_beat moment conn core beat.Nothing = pure core
do_beat moment conn core beat.Send = send moment conn response.Beat core
do_beat moment conn core beat.Close = close conn core

-- an open connection does what the heartbeat rule wants at a moment
abbrev pub tick_at : ℕ → ℕ → Core → Option Line → Option Input → Outcome
tick_at moment conn core (Some line) (Some input) = do_beat moment conn core (beat_of (held_of line input) moment)
tick_at moment conn core (Some line) None = pure core
tick_at moment conn core None input = pure core

-- the connections of a list, one after another
unfoldable pub tick_each : ℕ → ByNumber Input → List ℕ → Core → Outcome
tick_each moment inputs [] core = pure core
tick_each moment inputs (conn ∷ conns) core =
    and_then (tick_at moment conn core (line_of core conn) (get inputs conn)) (tick_each moment inputs conns)

-- what has come on those of them that are still open
abbrev pub settled_each : List ℕ → ByNumber Input → Core → ByNumber Input
settled_each [] inputs core = inputs
settled_each (conn ∷ conns) inputs core = settled_each conns (if contains_key core.lines conn then inputs else remove inputs conn) core

-- a tick goes through the open connections by rising number
abbrev pub tick : ℕ → State → Result
tick moment state =
    let outcome = tick_each moment state.inputs (keys state.inputs) state.core in
    record { state = record { core = outcome.core; inputs = settled_each (keys state.inputs) state.inputs outcome.core }; doings = outcome.doings }

-- a connection is opened, unless it is open, or 1,024 are
abbrev pub opened : ℕ → State → Result
opened conn state =
    if contains_key state.inputs conn || nat_le 1024 (len state.inputs) then unchanged state else
    unchanged (record { core = with_line state.core conn fresh_line; inputs = insert state.inputs conn fresh_input })

-- a peer has closed its connection
abbrev pub closed : ℕ → State → Result
closed conn state = unchanged (record { core = record { accepted = state.core.accepted; lines = remove state.core.lines conn }; inputs = remove state.inputs conn })

-- the exchange clears a security of the product, unless no further command is accepted
abbrev pub clear : Setting → ℤ → ℕ → State → Result
clear setting security moment state =
    if is_listed setting.listing security && nat_lt (length state.core.accepted) 200_000 then
    (let outcome = accept setting moment (command.Clear moment security) state.core in
    record { state = record { core = outcome.core; inputs = state.inputs }; doings = outcome.doings })
    else unchanged state

-- what happens at an exchange: a connection is opened, bytes come on it, it is closed by its peer; the time goes on; the exchange clears a security
pub data Event : Type 0 where
  Opened : (conn : ℕ) → Event
  Bytes : (conn : ℕ) → (piece : List ℕ) → (moment : ℕ) → Event
  Closed : (conn : ℕ) → Event
  Tick : (moment : ℕ) → Event
  Clear : (security : ℤ) → (moment : ℕ) → Event

-- what an event does
abbrev pub happens : Setting → State → Event → Result
happens setting state (Opened conn) = opened conn state
happens setting state (Bytes conn piece moment) = bytes setting moment conn piece state
happens setting state (Closed conn) = closed conn state
happens setting state (Tick moment) = tick moment state
happens setting state (Clear security moment) = clear setting security moment state

-- events, one after another
unfoldable pub run : Setting → List Event → State → Result
run setting [] state = unchanged state
run setting (event ∷ events) state =
    let first = happens setting state event in let rest = run setting events first.state in
    record { state = rest.state; doings = first.doings ++ rest.doings }

-- the accepted commands after a day's events
abbrev pub accepted : Setting → List Event → List Command
accepted setting events = (run setting events start).state.core.accepted

-- what goes out on a connection: the bytes of a frame, or a close
pub data Sent : Type 0 where
  framed : List ℕ → Sent
  shut : Sent

-- what a reply sends on a connection
abbrev pub reply_on : List Layout → ℕ → Reply → List Sent
reply_on layouts conn (sends c r) = if c == conn then framed (response_bytes layouts r) ∷ [] else []
reply_on layouts conn (closes c) = if c == conn then shut ∷ [] else []

-- what goes out on a connection among what was done
abbrev pub sent_in : List Layout → ℕ → List Doing → List Sent
sent_in layouts conn [] = []
sent_in layouts conn (replies reply ∷ doings) = reply_on layouts conn reply ++ sent_in layouts conn doings
sent_in layouts conn (tells messages ∷ doings) = sent_in layouts conn doings

-- what goes out on a connection in a day, with each close in its place
abbrev pub sent : Setting → List Event → ℕ → List Sent
sent setting events conn = sent_in setting.layouts conn (run setting events start).doings

-- the frames that go out, one behind the other
abbrev pub bytes_of : List Sent → List ℕ
bytes_of [] = []
bytes_of (framed bytes ∷ more) = bytes ++ bytes_of more
bytes_of (shut ∷ more) = bytes_of more

-- the pieces of a connection, one after another at one moment
abbrev pub pieces_at : ℕ → ℕ → List (List ℕ) → List Event
pieces_at conn moment pieces = map (λ piece. Bytes conn piece moment) pieces
