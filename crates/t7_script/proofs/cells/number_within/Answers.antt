use Rattle.std.proofs.Common.{rules}
use Rattle.t7_script.specs.Cells.{number_within}
use Rattle.t7_script.proofs.cells.number_within.Goals as goal

pub returns-in-Some-clause-value : goal.returns-in-Some-clause-value
unfolding number_within
returns-in-Some-clause-value c = search rules

pub returns-in_default-clause-value : goal.returns-in_default-clause-value
unfolding number_within
returns-in_default-clause-value c = search rules

pub returns-in_default-2-clause-value : goal.returns-in_default-2-clause-value
unfolding number_within
returns-in_default-2-clause-value c = search rules
