-- What want of memory in the middle of a piece leaves.
use Rattle.std.specs.Prelude.{◌≡◌, ◌≢◌, ℕ, ◌+◌, ◌-◌, ◌≤◌, List, [], ◌++◌, length, take, drop, Option, Some, None, max}
use Rattle.t7_entry.specs.ByNumber.{get, insert}
use Rattle.t7_frames.specs.Frames.{Front, whole, not_yet, bad_length, front_of}
use Rattle.t7_entry.specs.State.{Input, Line, Outcome, Setting, State, line_of}
use Rattle.t7_entry.specs.Treatment.{treat}
use Rattle.t7_entry.specs.Events.{Bytes, Result, refuse_open, settled, unchanged}
use Rattle.t7_entry.specs.Days.{Day, day_after, went_on}

-- what has come on a connection, if it is open
abbrev pub input_of : Day → ℕ → Option Input
input_of day conn = get day.state.inputs conn

-- a connection is open
pub data IsOpen (day : Day) (conn : ℕ) : Type 0 where
  opens : (line : Line) (input : Input) → line_of day.state.core conn ≡ Some line → input_of day conn ≡ Some input → IsOpen day conn

-- it isn't
pub record IsShut (day : Day) (conn : ℕ) : Type 0 where
  pub line : line_of day.state.core conn ≡ None
  pub input : input_of day conn ≡ None

-- the untreated bytes of what has come, if something is open
abbrev pub untreated_at : Option Input → List ℕ
untreated_at (Some input) = input.untreated
untreated_at None = []

-- the untreated bytes of a connection
abbrev pub untreated_of : Day → ℕ → List ℕ
untreated_of day conn = untreated_at (input_of day conn)

-- what an outcome leaves, where this has come on a connection
abbrev pub with_input : ℕ → State → Input → Outcome → Result
with_input conn state input outcome =
    record { state = record { core = outcome.core; inputs = settled state.inputs conn input outcome.core }; doings = outcome.doings }

-- what the treatment of a front leaves
abbrev pub front_treated_at : Setting → ℕ → ℕ → State → Option Input → Front → Result
front_treated_at setting moment conn state (Some input) (whole frame) =
    with_input conn state (record { untreated = drop (length frame) input.untreated; received = input.received }) (treat setting moment conn frame state.core)
front_treated_at setting moment conn state (Some input) (bad_length n) =
    with_input conn state input (refuse_open moment conn state.core (line_of state.core conn))
front_treated_at setting moment conn state (Some input) not_yet = unchanged state
front_treated_at setting moment conn state None front = unchanged state

-- what stands at the front of a connection's bytes is treated
abbrev pub front_treated : ℕ → ℕ → Day → Day
front_treated moment conn day = went_on day (front_treated_at day.setting moment conn day.state (input_of day conn) (front_of (untreated_of day conn)))

-- the day once bytes are taken on a connection, if it is open
abbrev pub taken_at : ℕ → ℕ → List ℕ → Day → Option Input → Day
taken_at moment conn bytes day (Some input) =
    record day { state = record { core = day.state.core; inputs = insert day.state.inputs conn (record { untreated = input.untreated ++ bytes; received = max input.received moment }) } }
taken_at moment conn bytes day None = day

-- bytes are taken on an open connection, and nothing is treated
abbrev pub taken : ℕ → ℕ → List ℕ → Day → Day
taken moment conn bytes day = taken_at moment conn bytes day (input_of day conn)

-- after so many bytes of a piece were taken, a call with the others ends where the whole piece would have
pub record GoesOn (old new : Day) (conn : ℕ) (bytes : List ℕ) (moment count : ℕ) : Type 0 where
  pub within : count ≤ length bytes
  pub leads : day_after new (Bytes conn (drop count bytes) moment) ≡ day_after old (Bytes conn bytes moment)

-- the days on the way of a piece: its first bytes are taken, fronts are treated, and nothing else is done
pub data Reaches (old : Day) (conn : ℕ) (bytes : List ℕ) (moment : ℕ) : Day → ℕ → Type 0 where
  starts : Reaches old conn bytes moment old 0
  treats : (now : Day) (count : ℕ) → Reaches old conn bytes moment now count → Reaches old conn bytes moment (front_treated moment conn now) count
  takes : (now : Day) (count n : ℕ) → Reaches old conn bytes moment now count
      → Reaches old conn bytes moment (taken moment conn (take n (take (length bytes - count) (drop count bytes))) now) (count + n)

-- Memory is wanting for what stands at the front: the frames before it are treated, it is not, so many bytes of the piece were taken,
-- and a call with the others goes on from there.
pub record Stalls (old new : Day) (conn : ℕ) (bytes : List ℕ) (moment count : ℕ) : Type 0 where
  pub goes_on : GoesOn old new conn bytes moment count
  pub reaches : Reaches old conn bytes moment new count
  pub still_open : IsOpen new conn
  pub stands : front_of (untreated_of new conn) ≢ not_yet
