use Rattle.std.proofs.Common.{◌≡◌, ◌<◌, ◌≤◌}
use Rattle.std.specs.List.{list_any}
use Rattle.t7_layout.specs.Rows.{is_field, so_far}
use Rattle.t7_layout.proofs.checks.has_field.Given as goal

abbrev pub invariant-loop-family : goal.invariant-loop-family
invariant-loop-family l = record {
  first : 0 < l.place;
  within : l.place ≤ l.at;
  none : list_any (is_field l.family l.name) (so_far l.rows l.at) ≡ list_any (is_field l.family l.name) (so_far l.rows l.place);
}

abbrev pub decreases-loop-family : goal.decreases-loop-family
decreases-loop-family l = l.place
