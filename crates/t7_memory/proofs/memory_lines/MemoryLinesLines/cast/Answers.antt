use Rattle.std.proofs.Common.{rules}
use Rattle.t7_memory.proofs.Telling.{cast_more, more_grew}
use Rattle.t7_memory.proofs.memory_lines.MemoryLinesLines.cast.Goals as goal

pub returns-in-Goes-clause-ok : goal.returns-in-Goes-clause-ok
returns-in-Goes-clause-ok c = search (rules, cast_more, more_grew)

pub returns-in-Goes-clause-done : goal.returns-in-Goes-clause-done
returns-in-Goes-clause-done c = search (rules, cast_more, more_grew)
