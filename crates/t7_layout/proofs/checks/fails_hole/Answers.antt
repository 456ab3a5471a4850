use Rattle.std.proofs.Common.{rules}
use Rattle.t7_layout.specs.Faults.{fails_hole}
use Rattle.t7_layout.proofs.checks.fails_hole.Goals as goal

pub returns : goal.returns
unfolding fails_hole
returns c = search rules
