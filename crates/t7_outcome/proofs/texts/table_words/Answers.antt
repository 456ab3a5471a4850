use Rattle.std.proofs.Common.{rules}
use Rattle.t7_outcome.proofs.Short.{table_short}
use Rattle.t7_outcome.proofs.texts.table_words.Goals as goal

pub returns-clause-short : goal.returns-clause-short
returns-clause-short c = search (rules, table_short)
