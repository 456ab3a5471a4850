use Rattle.std.proofs.Common.{rules}
use Rattle.t7_script.proofs.Splitting.{cut_off, uncut}
use Rattle.t7_script.proofs.cells.first_cell.Goals as goal

pub returns-then-line-at-eq32 : goal.returns-then-line-at-eq32
returns-then-line-at-eq32 c = search (rules, cut_off, uncut)

pub returns : goal.returns
returns c = search (rules, cut_off, uncut)
