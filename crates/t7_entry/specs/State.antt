-- What order entry keeps of its connections, and what it does.
use Rattle.std.specs.Prelude.{ℕ, List, [], ◌++◌, Option, None}
use Rattle.t7_entry.specs.ByNumber.{ByNumber, empty, get, insert}
use Rattle.t7_base.specs.Listing.{Listing}
use Rattle.t7_base.specs.declared.public.Public.{Public}
use Rattle.t7_layout.specs.Layouts.{Layout}
use Rattle.t7_eti.specs.declared.response.Response.{Response}
use Rattle.t7_book.specs.declared.command.Command.{Command}
use Rattle.t7_book.specs.Orders.{BookState, empty_book, roster_of}
use Rattle.t7_book.specs.Trace.{book_left}
use Rattle.t7_session.specs.Held.{Held}

-- the layout table and the product
pub record Setting : Type 0 where
  pub layouts : List Layout
  pub listing : Listing

-- the book that accepted commands leave
abbrev pub book_of : Setting → List Command → BookState
book_of setting accepted = book_left (empty_book (roster_of setting.listing)) accepted

-- the session of an open connection
pub record Line : Type 0 where
  -- the session that is logged on
  pub session : Option ℕ
  -- the number that the next request has to have
  pub next : ℕ
  -- the heartbeat interval in milliseconds, within its limits
  pub heart : ℕ
  -- the moment of the last sending
  pub sent : ℕ

-- what has come on an open connection
pub record Input : Type 0 where
  -- the bytes that were not treated yet
  pub untreated : List ℕ
  -- the moment of the last receipt
  pub received : ℕ

-- a connection that has just been opened
abbrev pub fresh_line : Line
fresh_line = record { session = None; next = 1; heart = 0; sent = 0 }

-- nothing has come on it
abbrev pub fresh_input : Input
fresh_input = record { untreated = []; received = 0 }

-- the same as one session holds it, between two frames
abbrev pub held_of : Line → Input → Held
held_of line input = record {
  untreated = input.untreated;
  session = line.session;
  next = line.next;
  heart = line.heart;
  received = input.received;
  sent = line.sent;
  asked = None;
}

-- what frames act on: the accepted commands, and the sessions of the open connections by their numbers
pub record Core : Type 0 where
  pub accepted : List Command
  pub lines : ByNumber Line

-- beside it stands what has come on each open connection
pub record State : Type 0 where
  pub core : Core
  pub inputs : ByNumber Input

-- before the first event
abbrev pub start : State
start = record { core = record { accepted = []; lines = empty }; inputs = empty }

-- a reply: a response goes out on a connection, or the connection is closed
pub data Reply : Type 0 where
  sends : (conn : ℕ) → Response → Reply
  closes : (conn : ℕ) → Reply

-- what is done: a reply is made, or an accepted command has told its messages, for the market data feed
pub data Doing : Type 0 where
  replies : Reply → Doing
  tells : List Public → Doing

-- what frames leave, and what was done
pub record Outcome : Type 0 where
  pub core : Core
  pub doings : List Doing

-- nothing is done
abbrev pub pure : Core → Outcome
pure core = record { core = core; doings = [] }

-- one thing after another
abbrev pub and_then : Outcome → (Core → Outcome) → Outcome
and_then first next = let rest = next first.core in record { core = rest.core; doings = first.doings ++ rest.doings }

-- the line of a connection, if it is open
abbrev pub line_of : Core → ℕ → Option Line
line_of core conn = get core.lines conn

-- with another session of a connection
abbrev pub with_line : Core → ℕ → Line → Core
with_line core conn line = record { accepted = core.accepted; lines = insert core.lines conn line }
