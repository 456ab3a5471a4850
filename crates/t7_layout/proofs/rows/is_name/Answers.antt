use Rattle.std.proofs.Common.{rules}
use Rattle.t7_layout.specs.Rows.{is_name}
use Rattle.t7_layout.proofs.rows.is_name.Goals as goal

pub returns-then-word-le40 : goal.returns-then-word-le40
unfolding is_name
returns-then-word-le40 c = search rules

pub returns-else-word-le40 : goal.returns-else-word-le40
unfolding is_name
returns-else-word-le40 c = search rules
