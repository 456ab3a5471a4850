-- The commands that order entry accepts at an event.
use Rattle.std.specs.Prelude.{◌≡◌, List, ◌++◌, length, drop}
use Rattle.t7_book.specs.declared.command.Command.{Command}
use Rattle.t7_entry.specs.State.{Doing, Setting, State, book_of}
use Rattle.t7_entry.specs.Events.{Event, happens}
use Rattle.t7_entry.specs.Days.{told_by, told_in}

-- These commands were accepted after those before them, and what was done tells the messages of each of them that gives some, in order.
pub record Adds (setting : Setting) (before after : List Command) (doings : List Doing) (cs : List Command) : Type 0 where
  pub accepted : after ≡ before ++ cs
  pub told : told_in doings ≡ told_by (book_of setting before) cs

-- the commands that are accepted at an event: those behind the ones that were accepted before it
abbrev pub added_by : Setting → State → Event → List Command
added_by setting state event = drop (length state.core.accepted) (happens setting state event).state.core.accepted
