use Rattle.std.proofs.Common.{rules}
use Rattle.t7_layout.specs.Faults.{is_length_or_id}
use Rattle.t7_layout.proofs.checks.is_length_or_id.Goals as goal

pub returns-then-eq : goal.returns-then-eq
unfolding is_length_or_id
returns-then-eq c = search rules

pub returns-else-eq : goal.returns-else-eq
unfolding is_length_or_id
returns-else-eq c = search rules
