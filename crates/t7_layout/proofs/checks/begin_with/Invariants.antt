use Rattle.std.proofs.Common.{◌≡◌, ◌+◌, drop, take}
use Rattle.t7_layout.specs.Faults.{begin_with}
use Rattle.t7_layout.proofs.checks.begin_with.Given as goal

abbrev pub invariant-loop-i : goal.invariant-loop-i
invariant-loop-i l =
    begin_with l.family l.names (drop l.start (take (l.at + 1) l.rows))
    ≡ begin_with l.family (drop l.i l.names) (drop (l.start + l.i) (take (l.at + 1) l.rows))
