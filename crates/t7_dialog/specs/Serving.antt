-- How order entry serves a client of a session on one connection.
use Rattle.std.specs.Prelude.{◌≡◌, ◌≢◌, ℕ, ◌++◌, true, false, List, Option, None, Some, length}
use Rattle.t7_base.specs.Outside.{Begins}
use Rattle.t7_layout.specs.Lookups.{IsTable}
use Rattle.t7_orders.specs.Answers.{responses}
use Rattle.t7_recover.specs.Entries.{AreEntries}
use Rattle.t7_entry.specs.ByNumber.{contains_key, get}
use Rattle.t7_entry.specs.State.{Core, Doing, Setting, State, line_of}
use Rattle.t7_entry.specs.Stalls.{untreated_at}
use Rattle.t7_entry.specs.Treatment.{session_of}
use Rattle.t7_entry.specs.Events.{Bytes, Closed, Event, Opened, Result, Tick, Clear, happens}
use Rattle.t7_dialog.specs.Asking.{AreAsked}
use Rattle.t7_dialog.specs.Reaching.{AreInStep, Reached, count_of, reached_by}
use Rattle.t7_dialog.specs.Saying.{is_shut, said_on}

-- no session is logged on, or this one
abbrev pub IsFor : ℕ → Option ℕ → Type 0
IsFor session None = Unit {0}
IsFor session (Some other) = other ≡ session

-- The connection has no session or the client's. What came on it and isn't treated is, with the bytes that the client has not sent, whole requests of the
-- client. Where it isn't open, nothing has come on it.
pub record IsServed (setting : Setting) (conn session : ℕ) (unsent : List ℕ) (state : State) : Type 0 where
  pub own : IsFor session (session_of state.core conn)
  pub shut : line_of state.core conn ≡ None → get state.inputs conn ≡ None
  pub asked : AreAsked setting.layouts session (untreated_at (get state.inputs conn) ++ unsent)

-- So many responses of the session have been told of on the connection: where it holds the session no other one does; and once it has answered a request for
-- responses it holds the session, and what it has said has come to all of them.
pub record IsTold (conn session stored : ℕ) (reached : Reached) (core : Core) : Type 0 where
  pub sole : session_of core conn ≡ Some session → (other : ℕ) → session_of core other ≡ Some session → other ≡ conn
  pub all : (count : ℕ) → count_of reached ≡ Some count → (session_of core conn ≡ Some session) × (count ≡ stored)

-- what is done says responses on the connection that are in step, and leaves it so
pub record Tells (conn session stored : ℕ) (reached : Reached) (doings : List Doing) (core : Core) : Type 0 where
  pub step : AreInStep reached (said_on conn doings)
  pub told : is_shut conn doings ≡ false → IsTold conn session stored (reached_by reached (said_on conn doings)) core

-- how many responses are stored for a session
abbrev pub stored_for : Setting → ℕ → Core → ℕ
stored_for setting session core = length (responses setting.listing core.accepted session)

-- An event leaves the connection so, unless it closes it; and each recoverable response that goes out on it is the entry of its number of the list
-- that is stored for the session. Where all that were stored have been told of, all are that are stored then, each live one in its turn.
pub record Serves (setting : Setting) (conn session : ℕ) (unsent : List ℕ) (before : State) (result : Result) : Type 0 where
  pub grows : Begins before.core.accepted result.state.core.accepted
  pub entries : AreEntries (responses setting.listing result.state.core.accepted session) (said_on conn result.doings)
  pub served : is_shut conn result.doings ≡ false → IsServed setting conn session unsent result.state
  pub telling : (reached : Reached) → (get before.inputs conn ≡ None → line_of before.core conn ≡ None) → IsTold conn session (stored_for setting session before.core) reached before.core
      → Tells conn session (stored_for setting session result.state.core) reached result.doings result.state.core

-- an event neither brings bytes on a connection nor closes it
abbrev pub IsElsewhere : ℕ → Event → Type 0
IsElsewhere conn (Bytes other piece moment) = conn ≢ other
IsElsewhere conn (Closed other) = conn ≢ other
IsElsewhere conn (Opened other) = Unit {0}
IsElsewhere conn (Tick moment) = Unit {0}
IsElsewhere conn (Clear security moment) = Unit {0}

-- An open connection on which a client of a session sends its requests, in whatever pieces, is served as that client's: whatever else happens, and whatever comes on
-- other connections.
pub record ClientsAreServed : Type 0 where
  pub own : (setting : Setting) (conn session : ℕ) (piece unsent : List ℕ) (moment : ℕ) (state : State) → IsTable setting.layouts
      → contains_key state.inputs conn ≡ true → IsServed setting conn session (piece ++ unsent) state → Serves setting conn session unsent state (happens setting state (Bytes conn piece moment))
  pub others : (setting : Setting) (conn session : ℕ) (unsent : List ℕ) (state : State) (event : Event) → IsTable setting.layouts
      → IsElsewhere conn event → IsServed setting conn session unsent state → Serves setting conn session unsent state (happens setting state event)
