use Rattle.std.proofs.Common.{◌≡◌, ◌<◌, ◌≤◌}
use Rattle.std.specs.List.{list_any}
use Rattle.t7_records.specs.Records.{record_at}
use Rattle.t7_layout.specs.Rows.{earlier_in, same_cell}
use Rattle.t7_layout.proofs.checks.repeats_field.Given as goal

abbrev pub invariant-loop-place : goal.invariant-loop-place
invariant-loop-place l = record {
  first : 0 < l.place;
  within : l.place ≤ l.at;
  none : list_any (λ r. same_cell 3 r (record_at l.rows l.at)) (earlier_in l.rows l.at) ≡ list_any (λ r. same_cell 3 r (record_at l.rows l.at)) (earlier_in l.rows l.place);
}

abbrev pub decreases-loop-place : goal.decreases-loop-place
decreases-loop-place l = l.place
