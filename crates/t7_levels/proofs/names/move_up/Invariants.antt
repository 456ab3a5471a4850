use Rattle.std.proofs.Common.{◌≡◌, ◌≤◌, ℕ, get_or, length}
use Rattle.std.specs.List.{insert, remove}
use Rattle.std.specs.Prelude.{Option, vec_capacity}
use Rattle.t7_levels.proofs.names.move_up.Given as goal

abbrev pub invariant-loop-place : goal.invariant-loop-place
invariant-loop-place g l = record {
  low : l.at ≤ l.place;
  high : l.place ≤ l.hole;
  moved : (d : g.row.K.Denot × Option ℕ) → l.entries.items ≡ insert (remove l.initial.entries.items l.hole) l.place (get_or l.entries.items l.place d);
  size : length l.entries.items ≡ length l.initial.entries.items;
  capacity : vec_capacity l.entries ≡ vec_capacity l.initial.entries;
}

abbrev pub decreases-loop-place : goal.decreases-loop-place
decreases-loop-place g l = l.place
