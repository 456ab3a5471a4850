use Rattle.std.proofs.Common.{rules}
use Rattle.t7_layout.specs.Rows.{begins}
use Rattle.t7_layout.proofs.rows.begins.Goals as goal

pub returns-then-at-eq1 : goal.returns-then-at-eq1
unfolding begins
returns-then-at-eq1 c = search rules

pub returns-else-at-eq1 : goal.returns-else-at-eq1
unfolding begins
returns-else-at-eq1 c = search rules
