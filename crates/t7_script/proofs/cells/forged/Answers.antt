use Rattle.std.proofs.Common.{rules}
use Rattle.t7_script.specs.Cells.{forged}
use Rattle.t7_script.proofs.cells.forged.Goals as goal

pub returns-then-eq : goal.returns-then-eq
unfolding forged
returns-then-eq c = search rules

pub returns : goal.returns
unfolding forged
returns c = search rules
