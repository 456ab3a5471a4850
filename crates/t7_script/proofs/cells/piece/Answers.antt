use Rattle.std.proofs.Common.{rules}
use Rattle.t7_script.specs.Cells.{piece}
use Rattle.t7_script.proofs.cells.piece.Goals as goal

pub returns-then-digits-gt-MOST_DIGITS : goal.returns-then-digits-gt-MOST_DIGITS
unfolding piece
returns-then-digits-gt-MOST_DIGITS c = search rules

pub returns-else-digits-gt-MOST_DIGITS : goal.returns-else-digits-gt-MOST_DIGITS
unfolding piece
returns-else-digits-gt-MOST_DIGITS c = search rules
