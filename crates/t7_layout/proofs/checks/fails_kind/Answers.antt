use Rattle.std.proofs.Common.{rules}
use Rattle.t7_layout.specs.Faults.{fails_kind}
use Rattle.t7_layout.proofs.checks.fails_kind.Goals as goal

pub returns : goal.returns
unfolding fails_kind
returns c = search rules
