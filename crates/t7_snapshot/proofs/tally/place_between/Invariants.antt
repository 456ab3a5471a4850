use Rattle.std.proofs.Common.{◌≢◌, ℕ, ◌-◌, ◌<◌, ◌≤◌, get_or}
use Rattle.t7_snapshot.specs.declared.tally.Tally.{Tally}
use Rattle.t7_snapshot.proofs.tally.place_between.Given as goal

abbrev pub invariant-loop-at : goal.invariant-loop-at
invariant-loop-at l = (k : ℕ) (tally : Tally) → l.from ≤ k → k < l.at → (get_or l.tallies k tally).security ≢ l.security

abbrev pub decreases-loop-at : goal.decreases-loop-at
decreases-loop-at l = l.to - l.at
