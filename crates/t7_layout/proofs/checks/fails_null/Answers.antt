use Rattle.std.proofs.Common.{rules}
use Rattle.t7_layout.specs.Faults.{fails_null}
use Rattle.t7_layout.proofs.checks.fails_null.Goals as goal

pub returns-then-is_length_or_id : goal.returns-then-is_length_or_id
unfolding fails_null
returns-then-is_length_or_id c = search rules

pub returns-then-is_required : goal.returns-then-is_required
unfolding fails_null
returns-then-is_required c = search rules

pub returns-else-is_required : goal.returns-else-is_required
unfolding fails_null
returns-else-is_required c = search rules

pub returns-else-not-is_empty : goal.returns-else-not-is_empty
unfolding fails_null
returns-else-not-is_empty c = search rules
