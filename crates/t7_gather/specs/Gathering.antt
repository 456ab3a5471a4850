-- What `gather` comes to by the events that its link gives.
use Rattle.std.specs.Prelude.{ℕ, List, [], Bool, true, false, ◌==◌, length, Option, None, Some, Ok, Err}
use Rattle.t7_layout.specs.Layouts.{Layout}
use Rattle.t7_client.specs.Recovering.{Recovery, dialed, new_recovery}
use Rattle.t7_net.specs.declared.link.LinkItem.{LinkItem}
use Rattle.t7_outcome.specs.declared.ending.Stop.TheVariants.{Unfinished}
use Rattle.t7_outcome.specs.Ending.{Ended}
use Rattle.t7_outcome.specs.Outcome.{Outcome, says}
use Rattle.t7_report.specs.Gathered.{gathered_lines}
use Rattle.t7_gather.specs.Turns.{Turn, turns}

-- the client of a session, when it has dialed
abbrev pub client_of : List Layout → ℕ → Recovery
client_of layouts session = dialed (new_recovery layouts session)

-- where all is recovered the report is due: RECOVERED, and a line for each response
abbrev pub report_by : Option Ended → Recovery → List (List ℕ)
report_by (Some (Ok finish)) client = gathered_lines true client.gathered
report_by (Some (Err stop)) client = []
report_by None client = []

-- the run ends where an event ended it, or where COUNT events were taken and none did
abbrev pub end_by : Option Ended → Bool → Recovery → Option Ended
end_by (Some ended) all client = Some ended
end_by None true client = Some (Err (Unfinished (length client.gathered)))
end_by None false client = None

-- the report that is due behind these events
abbrev pub report_at : ℕ → Recovery → List LinkItem → List (List ℕ)
report_at conn client events = report_by (turns conn client events).ended (turns conn client events).client

-- what the run comes to behind these turns
abbrev pub outcome_of : {Moment : Type 0} → Turn → Bool → Outcome Moment
outcome_of turn all = record { names = []; parts = says (report_by turn.ended turn.client); end = end_by turn.ended all turn.client }

-- `gather` with this COUNT over these events, the newest of which stands first, on the connection of this number. COUNT counts all events that the
-- link gives: bytes, openings and closes of any connection, and Quiet.
abbrev pub gathered : {Moment : Type 0} → ℕ → ℕ → Recovery → List LinkItem → Outcome Moment
gathered count conn client events = outcome_of (turns conn client events) (length events == count)
