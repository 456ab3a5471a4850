-- What the commands come to.
use Rattle.std.specs.Prelude.{Option, None, Some}
use Rattle.t7_outcome.specs.declared.ending.Stop.TheVariants.{Usage}
use Rattle.t7_outcome.specs.Outcome.{Outcome, Given, stops}
use Rattle.t7_top.specs.declared.text.TheConstants.{HELP, VERSION}
use Rattle.t7_top.specs.Check.{check_run}
use Rattle.t7_top.specs.Exercise.{exercised}
use Rattle.t7_top.specs.Jobs.{over_table}
use Rattle.t7_top.specs.Moments.{Moment}
use Rattle.t7_top.specs.Network.{Intake}
use Rattle.t7_top.specs.Text.{told}
use Rattle.t7_top.specs.Words.{Invocation, Over, Check, Drill, Help, Version}

-- What a command comes to where nothing outside fails and memory is found, by what it took and by what its files hold.
abbrev pub outcome_of : Option Invocation → Intake → Given → Outcome Moment
outcome_of None taken given = stops Usage
outcome_of (Some (Over table product job)) taken given = over_table table product job taken given
outcome_of (Some (Check table)) taken given = check_run table given
outcome_of (Some (Drill seed orders)) taken given = exercised seed orders
outcome_of (Some Help) taken given = told HELP.now
outcome_of (Some Version) taken given = told VERSION.now
