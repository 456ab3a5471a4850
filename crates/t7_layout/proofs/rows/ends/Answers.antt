use Rattle.std.proofs.Common.{rules}
use Rattle.t7_layout.specs.Rows.{ends}
use Rattle.t7_layout.proofs.rows.ends.Goals as goal

pub returns-then-len-at : goal.returns-then-len-at
unfolding ends
returns-then-len-at c = search rules

pub returns-else-len-at : goal.returns-else-len-at
unfolding ends
returns-else-len-at c = search rules
