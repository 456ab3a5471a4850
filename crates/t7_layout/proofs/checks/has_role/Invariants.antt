use Rattle.std.proofs.Common.{◌≡◌, false, take}
use Rattle.std.specs.List.{list_any}
use Rattle.t7_layout.specs.Rows.{is_of}
use Rattle.t7_layout.proofs.checks.has_role.Given as goal

abbrev pub invariant-loop-at : goal.invariant-loop-at
invariant-loop-at l = list_any (λ row. is_of row l.role) (take l.at l.rows) ≡ false
