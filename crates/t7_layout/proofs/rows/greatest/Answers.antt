use Rattle.std.proofs.Common.{rules}
use Rattle.t7_layout.specs.Rows.{greatest}
use Rattle.t7_layout.proofs.rows.greatest.Goals as goal

pub returns-in-1 : goal.returns-in-1
unfolding greatest
returns-in-1 c = search rules

pub returns-in-2 : goal.returns-in-2
unfolding greatest
returns-in-2 c = search rules

pub returns-in-4 : goal.returns-in-4
unfolding greatest
returns-in-4 c = search rules

pub returns-in_default : goal.returns-in_default
unfolding greatest
returns-in_default c = search rules
