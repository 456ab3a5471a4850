use Rattle.std.proofs.Common.{rules}
use Rattle.t7_layout.specs.Faults.{fails_family}
use Rattle.t7_layout.proofs.checks.fails_family.Goals as goal

pub returns : goal.returns
unfolding fails_family
returns c = search rules
