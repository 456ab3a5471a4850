use Rattle.std.proofs.Common.{rules}
use Rattle.t7_layout.specs.Faults.{is_required}
use Rattle.t7_layout.proofs.checks.is_required.Goals as goal

pub returns-in-None : goal.returns-in-None
unfolding is_required
returns-in-None c = search rules

pub returns-in-Some : goal.returns-in-Some
unfolding is_required
returns-in-Some c = search rules
