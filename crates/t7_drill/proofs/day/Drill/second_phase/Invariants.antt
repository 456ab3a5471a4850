use Rattle.std.proofs.Common.{◌+◌}
use Rattle.t7_drill.specs.Kits.{Stands, Within}
use Rattle.t7_drill.specs.Worlds.{World, second_phase}
use Rattle.t7_drill.proofs.day.Drill.second_phase.Given as goal

abbrev pub invariant-loop-i : goal.invariant-loop-i
invariant-loop-i l = record {
  stands : (w : World) → Stands w l.initial.self → Stands (second_phase l.i w) l.self;
  within : Within (20012 + l.i) l.self;
}
