use Rattle.std.proofs.Common.{◌+◌}
use Rattle.t7_drill.specs.Kits.{Stands, Within}
use Rattle.t7_drill.specs.Worlds.{World, first_phase}
use Rattle.t7_drill.proofs.day.Drill.first_phase.Given as goal

abbrev pub invariant-loop-i : goal.invariant-loop-i
invariant-loop-i l = record {
  stands : (w : World) → Stands w l.initial.self → Stands (first_phase l.i w) l.self;
  within : Within (12 + l.i) l.self;
}
