-- The day of an exchange, by its parts.
use Rattle.std.specs.Prelude.{List}
use Rattle.t7_book.specs.declared.command.Command.{Command}
use Rattle.t7_entry.specs.State.{Setting, State}
use Rattle.t7_entry.specs.Days.{Day}
use Rattle.t7_exchange.specs.Maps.{inputs_of}
use Rattle.t7_exchange.specs.Outbox.{Outbox}
use Rattle.t7_exchange.specs.Wires.{Wires, core_of}

-- order entry: these connections beside these accepted commands
abbrev pub state_of : List Command → Wires → State
state_of accepted w = record { core = core_of accepted w.held; inputs = inputs_of w.held }

-- the day: order entry, the replies that wait, and what is to be sent
abbrev pub day_of : Setting → List Command → Wires → Outbox → Day
day_of setting accepted w out = record {
  setting = setting;
  state = state_of accepted w;
  waiting = w.waiting;
  untold = out.untold;
  live = out.live;
  beats = out.beats;
  left = out.cycle.left;
  snaps = out.snaps;
}
