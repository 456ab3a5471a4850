-- What an exchange holds: order entry with its accepted commands, the replies that wait, the messages that are still to be sent, and the snapshot cycle under way.
use Rattle.std.specs.Prelude.{◌≡◌, ℕ, ◌+◌, ◌-◌, List, [], ◌∷◌, ◌++◌, length}
use Rattle.t7_base.specs.declared.public.Public.{Public}
use Rattle.t7_layout.specs.Layouts.{Layout}
use Rattle.t7_eobi.specs.declared.walks.Snap.{Snap}
use Rattle.t7_book.specs.declared.command.Command.{Command}
use Rattle.t7_book.specs.Orders.{BookState}
use Rattle.t7_book.specs.Steps.{book_after, messages, steps}
use Rattle.t7_book.specs.Trace.{trace}
use Rattle.t7_greedy.specs.Cuts.{cut, joined}
use Rattle.t7_eobi.specs.Sizes.{message_size}
use Rattle.t7_packets.specs.Packing.{Datagram, room_in}
use Rattle.t7_packets.specs.Datagrams.{shipped}
use Rattle.t7_entry.specs.State.{Doing, Reply, Setting, State, replies, start, tells}
use Rattle.t7_entry.specs.Events.{Event, Result, happens}

-- what an exchange holds between two calls
pub record Day : Type 0 where
  -- the layout table and the product
  pub setting : Setting
  -- order entry, with the accepted commands: the book and the stored responses are functions of these
  pub state : State
  -- the replies that wait, in the order of their causes
  pub waiting : List Reply
  -- of each command whose messages aren't all sent, those that aren't
  pub untold : List (List Public)
  -- how many live datagrams were sent
  pub live : ℕ
  -- how many of them were heartbeats
  pub beats : ℕ
  -- the datagrams of the snapshot cycle under way that are left, none where none is under way
  pub left : List (List Snap)
  -- how many snapshot datagrams were sent
  pub snaps : ℕ

-- the beginning of a day
abbrev pub new_day : Setting → Day
new_day setting = record { setting = setting; state = start; waiting = []; untold = []; live = 0; beats = 0; left = []; snaps = 0 }

-- the replies among what was done, in order
abbrev pub replies_in : List Doing → List Reply
replies_in [] = []
replies_in (replies reply ∷ doings) = reply ∷ replies_in doings
replies_in (tells messages ∷ doings) = replies_in doings

-- messages in front of others, if there are any
abbrev pub before_others : List Public → List (List Public) → List (List Public)
before_others [] others = others
before_others (message ∷ messages) others = (message ∷ messages) ∷ others

-- the messages of each command that gives some
abbrev pub told_in : List Doing → List (List Public)
told_in [] = []
told_in (replies reply ∷ doings) = told_in doings
told_in (tells messages ∷ doings) = before_others messages (told_in doings)

-- the day after what an event did, or a part of one
abbrev pub went_on : Day → Result → Day
went_on day result = record day { state = result.state; waiting = day.waiting ++ replies_in result.doings; untold = day.untold ++ told_in result.doings }

-- the day after an event
abbrev pub day_after : Day → Event → Day
day_after day event = went_on day (happens day.setting day.state event)

-- the number of the last message: how many messages the accepted commands give
abbrev pub last_of : Day → ℕ
last_of day = length (trace day.setting.listing day.state.core.accepted)

-- the number of the first message that isn't sent
abbrev pub first_of : Day → ℕ
first_of day = last_of day - length (joined day.untold) + 1

-- The live datagrams of messages, where the next datagram and the next message have these numbers: those of each command are cut
-- greedily.
abbrev pub due_from : List Layout → ℕ → ℕ → ℕ → List (List Public) → List Datagram
due_from layouts limit number first [] = []
due_from layouts limit number first (messages ∷ others) =
    let runs = cut (message_size layouts) (room_in layouts limit) messages in
    shipped number first runs ++ due_from layouts limit (number + length runs) (first + length messages) others

-- the messages of each of these commands that gives some, from a book on
abbrev pub told_by : BookState → List Command → List (List Public)
told_by book [] = []
told_by book (c ∷ cs) = before_others (messages (steps book c)) (told_by (book_after book c) cs)

-- the live datagrams that are still to be sent
abbrev pub due : Day → List Datagram
due day = due_from day.setting.layouts day.setting.listing.datagram (day.live + 1) (first_of day) day.untold

-- a datagram is sent: it is the first that was due, and the others are due still
pub record Ships (old new : Day) (datagram : Datagram) : Type 0 where
  pub first : due old ≡ datagram ∷ due new
  pub others : new ≡ record old { untold = new.untold; live = old.live + 1 }
