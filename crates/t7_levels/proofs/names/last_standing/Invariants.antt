use Rattle.std.proofs.Common.{◌≡◌, length}
use Rattle.t7_levels.specs.Named.{last_entry}
use Rattle.t7_levels.specs.Holes.{standing}
use Rattle.t7_levels.proofs.names.last_standing.Given as goal

abbrev pub invariant-loop-name : goal.invariant-loop-name
invariant-loop-name g l = last_entry (standing l.rest) ≡ last_entry (standing l.entries)

abbrev pub decreases-loop-name : goal.decreases-loop-name
decreases-loop-name g l = length l.rest
