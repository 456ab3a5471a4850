use Rattle.std.proofs.Common.{rules}
use Rattle.t7_memory.proofs.Telling.{bound_more, more_grew}
use Rattle.t7_memory.proofs.memory_lines.MemoryLinesLines.bind.Goals as goal

pub returns-clause-asked : goal.returns-clause-asked
returns-clause-asked c = search (rules, bound_more, more_grew)

pub returns-clause-done : goal.returns-clause-done
returns-clause-done c = search (rules, bound_more, more_grew)

pub returns-clause-undone : goal.returns-clause-undone
returns-clause-undone c = search (rules, bound_more, more_grew)
