use Rattle.std.proofs.Common.{◌≡◌, ◌-◌, length, take}
use Rattle.t7_layout.specs.Faults.{fault_at, least_fault}
use Rattle.t7_layout.specs.Pairs.{HoldsRows}
use Rattle.t7_layout.proofs.checks.least_fault.Given as goal

abbrev pub invariant-loop-at : goal.invariant-loop-at
invariant-loop-at l = record {
  least : least_fault (fault_at l.rows) 0 (length l.rows) ≡ least_fault (fault_at l.rows) l.at (length l.rows - l.at);
  passed : HoldsRows (take l.at l.rows) l.passed;
}
