use Rattle.std.proofs.Common.{rules}
use Rattle.t7_script.proofs.Splitting.{not_one}
use Rattle.t7_script.proofs.cells.Cells.one.Goals as goal

pub returns-in_default-Some : goal.returns-in_default-Some
returns-in_default-Some c = search (rules, not_one)
