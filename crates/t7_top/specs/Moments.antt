-- What a report of any command owes: the words of the headline.
use Rattle.std.specs.Prelude.{◌≡◌, ℕ, List, map}
use Rattle.t7_drill.specs.Drilled.{IsSynced, IsTold}
use Rattle.t7_drill.specs.Telling.{Told, lines_of}
use Rattle.t7_drill.specs.Worlds.{World}
use Rattle.t7_follow.specs.Reports as member
use Rattle.t7_outcome.specs.Outcome.{Outcome, Part, Says, Shows}
use Rattle.t7_replay.specs.Reports as script

-- what a report is about: a moment of a script, of a member on the network, or the end of a drill
pub data Moment : Type 0 where
  OfScript : (moment : script.Moment) → Moment
  OfMember : (moment : member.Moment) → Moment
  OfDrill : (world : World) → Moment

-- The lines of a moment: at a SHOW of a script, and where a member on the network prints, those of a state and of orders that are a Report of what an
-- exchange did and of what was delivered so far; at a LIST of a script those of a front of the responses that the exchange has stored for the client's session;
-- at the end of a drill those of what its generated day comes to, where the member shows the last message and has the exchange's orders.
abbrev pub IsReported : Moment → List (List ℕ) → Type 0
IsReported (OfScript moment) lines = script.IsReported moment lines
IsReported (OfMember moment) lines = member.IsReported moment lines
IsReported (OfDrill world) lines = (told : Told) × IsTold world told × IsSynced told × (lines ≡ lines_of told)

-- a part, whose moment is one of these
abbrev pub part_as : {A B : Type 0} → (A → B) → Part A → Part B
part_as name (Says line) = Says line
part_as name (Shows moment) = Shows (name moment)

-- an outcome, whose moments are among these
abbrev pub outcome_as : {A B : Type 0} → (A → B) → Outcome A → Outcome B
outcome_as name plain = record { names = plain.names; parts = map (part_as name) plain.parts; end = plain.end }
