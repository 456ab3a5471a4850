use Rattle.std.proofs.Common.{rules}
use Rattle.t7_layout.specs.Rows.{is_heading}
use Rattle.t7_layout.proofs.rows.is_heading.Goals as goal

pub returns-then-says-7 : goal.returns-then-says-7
unfolding is_heading
returns-then-says-7 c = search rules

pub returns-else-says-7 : goal.returns-else-says-7
unfolding is_heading
returns-else-says-7 c = search rules
