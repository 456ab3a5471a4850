use Rattle.std.proofs.Common.{rules}
use Rattle.t7_script.specs.Cells.{hex}
use Rattle.t7_script.proofs.cells.hex_bytes.Goals as goal

pub returns-then-is_empty : goal.returns-then-is_empty
unfolding hex
returns-then-is_empty c = search rules

pub returns-in-Ok : goal.returns-in-Ok
unfolding hex
returns-in-Ok c = search rules

pub returns-in-Err : goal.returns-in-Err
unfolding hex
returns-in-Err c = search rules
