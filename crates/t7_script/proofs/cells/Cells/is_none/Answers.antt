use Rattle.std.proofs.Common.{rules}
use Rattle.t7_script.proofs.Splitting.{is_some_cell}
use Rattle.t7_script.proofs.cells.Cells.is_none.Goals as goal

pub returns-in-Some : goal.returns-in-Some
returns-in-Some c = search (rules, is_some_cell)
