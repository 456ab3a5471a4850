use Rattle.std.proofs.Common.{◌≤◌, length}
use Rattle.t7_layout.specs.Inside.{ArePlacesOfIds}
use Rattle.t7_layout.proofs.index.note_ids.Given as goal

abbrev pub invariant-loop-left : goal.invariant-loop-left
invariant-loop-left l = record {
  below : l.left ≤ length l.templates;
  are : ArePlacesOfIds l.templates l.family l.left l.places;
}

abbrev pub decreases-loop-left : goal.decreases-loop-left
decreases-loop-left l = l.left
