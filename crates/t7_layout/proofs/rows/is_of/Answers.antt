use Rattle.std.proofs.Common.{rules}
use Rattle.t7_layout.specs.Rows.{is_of}
use Rattle.t7_layout.proofs.rows.is_of.Goals as goal

pub returns-then-same_family : goal.returns-then-same_family
unfolding is_of
returns-then-same_family c = search rules

pub returns-else-same_family : goal.returns-else-same_family
unfolding is_of
returns-else-same_family c = search rules
