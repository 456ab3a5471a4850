-- Connections, and the replies that wait for them.
use Rattle.std.specs.Prelude.{◌≡◌, ℕ, List, [], ◌++◌, Option, Some, None}
use Rattle.t7_eti.specs.declared.response.Response.{Response}
use Rattle.t7_book.specs.declared.command.Command.{Command}
use Rattle.t7_session.specs.Held.{Held}
use Rattle.t7_entry.specs.ByNumber.{ByNumber, get}
use Rattle.t7_entry.specs.State.{Core, Input, Outcome, Reply, closes, line_of, sends}
use Rattle.t7_entry.specs.Events.{tick_at}
use Rattle.t7_entry.specs.Days.{replies_in, told_in}
use Rattle.t7_exchange.specs.declared.wires.Waiting.{Waiting}
use Rattle.t7_exchange.specs.declared.wires.Waiting.TheVariants as waiting
use Rattle.t7_eti.specs.declared.response.Response.TheVariants as response
use Rattle.t7_orders.specs.declared.response.Numbered.{Numbered}
use Rattle.t7_entry.specs.Treatment.{deliver_at, holder}
use Rattle.t7_exchange.specs.Maps.{lines_of}

-- what each open connection holds, the replies that wait, and for how many more there is room
pub record Wires : Type 0 where
  pub held : ByNumber Held
  pub waiting : List Reply
  pub spare : ℕ

-- the reply that waits
abbrev pub reply_of : Waiting → Reply
reply_of (waiting.Sends conn response) = sends conn response
reply_of (waiting.Closes conn) = closes conn

-- the reply of a response on a connection, or of its close
abbrev pub reply_with : ℕ → Option Response → Reply
reply_with conn (Some response) = sends conn response
reply_with conn None = closes conn

-- what frames act on: these connections beside these accepted commands
abbrev pub core_of : List Command → ByNumber Held → Core
core_of accepted held = record { accepted = accepted; lines = lines_of held }

-- the connections and the replies went where an outcome leads, which tells no messages
pub record Acts (accepted : List Command) (old new : Wires) (outcome : Core → Outcome) : Type 0 where
  pub core : core_of accepted new.held ≡ (outcome (core_of accepted old.held)).core
  pub replied : new.waiting ≡ old.waiting ++ replies_in (outcome (core_of accepted old.held)).doings
  pub silent : told_in (outcome (core_of accepted old.held)).doings ≡ []

-- a numbered response goes out where a connection holds its session
abbrev pub delivered : ℕ → Numbered → Core → Outcome
delivered moment n core = deliver_at moment (response.Kept n.number n.what) core (holder n.session core)

-- a connection does what the heartbeat rule wants by what had come on it
abbrev pub ticked : ℕ → ℕ → ByNumber Input → Core → Outcome
ticked moment conn inputs core = tick_at moment conn core (line_of core conn) (get inputs conn)
