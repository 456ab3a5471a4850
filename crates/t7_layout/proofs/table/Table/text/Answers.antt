use Rattle.std.proofs.Common.{rules}
use Rattle.t7_layout.specs.Texts.{table_text}
use Rattle.t7_layout.proofs.table.Table.text.Goals as goal

pub returns-clause-ok : goal.returns-clause-ok
unfolding table_text
returns-clause-ok c = search rules
