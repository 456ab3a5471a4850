use Rattle.std.proofs.Common.{rules}
use Rattle.t7_layout.specs.Rows.{end_before}
use Rattle.t7_layout.proofs.rows.end_before.Goals as goal

pub returns-then-begins : goal.returns-then-begins
unfolding end_before
returns-then-begins c = search rules

pub returns-else-begins : goal.returns-else-begins
unfolding end_before
returns-else-begins c = search rules
