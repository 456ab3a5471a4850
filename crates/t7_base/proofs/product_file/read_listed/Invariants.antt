use Rattle.std.proofs.Common.{◌≡◌, ◌-◌, length}
use Rattle.t7_base.specs.ProductFile.{fault_at, least_fault}
use Rattle.t7_base.specs.ProductLists.{lists_before}
use Rattle.t7_base.proofs.product_file.read_listed.Given as goal

abbrev pub invariant-loop-at : goal.invariant-loop-at
invariant-loop-at l = record {
  lists : l.listed ≡ lists_before l.rows l.at;
  faults : least_fault (fault_at l.rows) 0 (length l.rows) ≡ least_fault (fault_at l.rows) l.at (length l.rows - l.at);
}
