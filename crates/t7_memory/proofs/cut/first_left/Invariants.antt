use Rattle.std.proofs.Common.{◌≡◌, ◌≤◌, ◌-◌, length, drop}
use Rattle.t7_memory.specs.LinkStates.{behind, trimmed}
use Rattle.t7_memory.proofs.cut.first_left.Given as goal

abbrev pub invariant-loop-at : goal.invariant-loop-at
invariant-loop-at l = record {
  within : l.at ≤ length l.items;
  same : trimmed (behind l.start (drop l.at l.items)) ≡ trimmed (behind l.fn.taken (drop l.fn.from l.items));
}

abbrev pub decreases-loop-at : goal.decreases-loop-at
decreases-loop-at l = length l.items - l.at
