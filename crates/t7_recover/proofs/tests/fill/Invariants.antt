use Rattle.std.proofs.Common.{◌≤◌, ◌+◌}
use Rattle.t7_recover.specs.Shelves.{spare_of}
use Rattle.t7_recover.proofs.tests.fill.Given as goal

abbrev pub invariant-loop-number : goal.invariant-loop-number
invariant-loop-number g l = l.count ≤ spare_of l.store l.session + l.number
