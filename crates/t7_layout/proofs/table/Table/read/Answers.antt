use Rattle.std.proofs.Common.{◌∙◌, sym, arith}
use Rattle.t7_layout.proofs.KeptFacts.{is_table}
use Rattle.t7_layout.proofs.IndexFacts.{few_table}
use Rattle.t7_layout.proofs.table.Table.read.Goals as goal

pub indexed-requires-clause-table : goal.indexed-requires-clause-table
indexed-requires-clause-table c =
    rw (c.in_ok-templates-in-None.ensures) (is_table _ (sym c.in_ok-fault.ensures ∙ c.in-None.is))

pub indexed-requires-clause-count : goal.indexed-requires-clause-count
indexed-requires-clause-count c = rw c.in_ok-templates-in-None.ensures (few_table _ (omega arith))
