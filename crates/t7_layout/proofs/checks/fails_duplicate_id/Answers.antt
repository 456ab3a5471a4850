use Rattle.std.proofs.Common.{rules}
use Rattle.t7_layout.specs.Faults.{fails_duplicate_id}
use Rattle.t7_layout.proofs.checks.fails_duplicate_id.Goals as goal

pub returns-then-begins : goal.returns-then-begins
unfolding fails_duplicate_id
returns-then-begins c = search rules

pub returns-else-begins : goal.returns-else-begins
unfolding fails_duplicate_id
returns-else-begins c = search rules
