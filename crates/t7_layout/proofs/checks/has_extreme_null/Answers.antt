use Rattle.std.proofs.Common.{rules}
use Rattle.t7_layout.specs.Faults.{has_extreme_null}
use Rattle.t7_layout.proofs.checks.has_extreme_null.Goals as goal

pub returns-then-has_kind : goal.returns-then-has_kind
unfolding has_extreme_null
returns-then-has_kind c = search rules

pub returns-else-has_kind : goal.returns-else-has_kind
unfolding has_extreme_null
returns-else-has_kind c = search rules
