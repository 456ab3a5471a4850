use Rattle.std.proofs.Common.{rules}
use Rattle.t7_layout.specs.Faults.{fails_overlap}
use Rattle.t7_layout.proofs.checks.fails_overlap.Goals as goal

pub returns : goal.returns
unfolding fails_overlap
returns c = search rules
