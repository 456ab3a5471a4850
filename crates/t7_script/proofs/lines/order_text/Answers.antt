use Rattle.std.proofs.Common.{rules}
use Rattle.t7_script.specs.Lines.{order_line}
use Rattle.t7_script.proofs.lines.order_text.Goals as goal

pub returns-clause-value : goal.returns-clause-value
unfolding order_line
returns-clause-value c = search rules
