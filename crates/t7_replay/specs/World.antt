-- The state of a replay: what the lines of a script have done so far.
use Rattle.std.specs.Prelude.{ℕ, ◌+◌, Bool, false, List, [], Option, None}
use Rattle.t7_book.specs.Acts.{Act}
use Rattle.t7_eti.specs.declared.response.Response.{Response}
use Rattle.t7_entry.specs.State.{State, start}
use Rattle.t7_feed.specs.Arrivals.{Delivery}
use Rattle.t7_replay.specs.Calling.{Calling}

-- a state of a replay, between two lines
pub record World : Type 0 where
  -- order entry, with the commands that were accepted
  pub state : State
  -- the moment of the last TICK
  pub moment : ℕ
  -- bytes are printed too, from a RAW on
  pub raw : Bool
  -- what the exchange did, in order
  pub acts : List Act
  -- what was delivered to the member; the newest stands first
  pub came : List Delivery
  -- some of it was forged
  pub forged : Bool
  -- the client, from its first DIAL on
  pub caller : Option Calling
  -- the responses that the exchange has sent on the client's connection since its last dial
  pub said : List Response
  -- how many lines were played
  pub row : ℕ

-- before the first line
abbrev pub new_world : World
new_world = record { state = start; moment = 0; raw = false; acts = []; came = []; forged = false; caller = None; said = []; row = 0 }

-- a line more is played
abbrev pub on_next_line : World → World
on_next_line world = record world { row = world.row + 1 }
