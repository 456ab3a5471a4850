use Rattle.std.proofs.Common.{◌≡◌, ◌+◌, ◌≤◌, [], length}
use Rattle.t7_drill.specs.Kits.{Stands}
use Rattle.t7_drill.specs.Worlds.{World, cycle_ended}
use Rattle.t7_drill.proofs.day.Drill.end_cycle.Given as goal

abbrev pub invariant-loop-self : goal.invariant-loop-self
invariant-loop-self l = record {
  stands : (w : World) → Stands w l.initial.self → (now : World) × Stands now l.self × (cycle_ended now ≡ cycle_ended w);
  told : l.self.day.untold ≡ [];
  sum : l.self.day.snaps + length l.self.day.left ≤ l.initial.self.day.snaps + length l.initial.self.day.left;
  beats : l.self.day.beats ≡ l.initial.self.day.beats;
}

abbrev pub decreases-loop-self : goal.decreases-loop-self
decreases-loop-self l = length l.self.day.left
