use Rattle.std.proofs.Common.{◌≡◌, ◌<◌, ◌≤◌, ◌+◌, ◌++◌, drop, take, ℕ, false}
use Rattle.t7_layout.specs.Rows.{begins, so_far}
use Rattle.t7_layout.proofs.checks.start_of.Given as goal

abbrev pub invariant-loop-place : goal.invariant-loop-place
invariant-loop-place l = record {
  first : 0 < l.place;
  within : l.place ≤ l.at;
  inner : (j : ℕ) → l.place < j → j ≤ l.at → begins l.rows j ≡ false;
  rows : so_far l.rows l.at ≡ so_far l.rows l.place ++ drop (l.place + 1) (take (l.at + 1) l.rows);
}

abbrev pub decreases-loop-place : goal.decreases-loop-place
decreases-loop-place l = l.place
