-- What `exchange` comes to by the events that it takes and the moments that the clock gives, one for each event.
use Rattle.std.specs.Prelude.{ℕ, ◌==◌, Bool, false, if◌then◌else◌, List, [], ◌∷◌, Option, Some, None, Ok, Err, length}
use Rattle.t7_entry.specs.Days.{last_of}
use Rattle.t7_feed.specs.Arrivals.{Terms}
use Rattle.t7_net.specs.declared.link.LinkItem.{LinkItem}
use Rattle.t7_outcome.specs.declared.ending.Finish.TheVariants.{End}
use Rattle.t7_outcome.specs.declared.ending.Stop.TheVariants.{TooLong}
use Rattle.t7_outcome.specs.Ending.{Ended}
use Rattle.t7_outcome.specs.Outcome.{Outcome}
use Rattle.t7_serve.specs.Turns.{does, is_too_long}
use Rattle.t7_serve.specs.Venues.{Turn, and_then, new_venue, rests}

-- an event that was taken, and its moment
pub record Taking : Type 0 where
  pub item : LinkItem
  pub moment : ℕ

-- these events with their moments behind others; in the result the newest stands first
abbrev pub behind : List Taking → List LinkItem → List ℕ → List Taking
behind before [] moments = before
behind before (item ∷ items) [] = before
behind before (item ∷ items) (moment ∷ moments) = behind (record { item = item; moment = moment } ∷ before) items moments

-- the events with their moments, the newest first
abbrev pub takings : List LinkItem → List ℕ → List Taking
takings items moments = behind [] items moments

-- what was done by these events, one after another; one that brings its connection above 64 MiB is passed over
abbrev pub done_by : Terms → List Taking → Turn
done_by terms [] = rests (new_venue terms)
done_by terms (taking ∷ before) =
    let turn = done_by terms before in
    if is_too_long taking.item turn.venue then turn else and_then turn (does taking.item taking.moment)

-- the last event brought its connection above 64 MiB
abbrev pub ends_too_long : Terms → List Taking → Bool
ends_too_long terms [] = false
ends_too_long terms (taking ∷ before) = is_too_long taking.item (done_by terms before).venue

-- how it ended: an event was too long, or as many as were asked for were taken, and `END n` is due, n the number of the last message
abbrev pub end_of : Terms → ℕ → List Taking → Option Ended
end_of terms count takings =
    if ends_too_long terms takings then Some (Err TooLong) else
    if length takings == count then Some (Ok (End (last_of (done_by terms takings).venue.day))) else None

-- `exchange` with this COUNT over these events: it takes no file, and prints nothing before its last line
abbrev pub served : {Moment : Type 0} → Terms → ℕ → List Taking → Outcome Moment
served terms count takings = record { names = []; parts = []; end = end_of terms count takings }
