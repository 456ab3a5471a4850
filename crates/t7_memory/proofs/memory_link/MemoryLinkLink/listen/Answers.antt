use Rattle.std.proofs.Common.{rules}
use Rattle.t7_memory.proofs.Telling.{asked_more, more_grew}
use Rattle.t7_memory.proofs.memory_link.MemoryLinkLink.listen.Goals as goal

pub returns-in-Fails-clause-asked : goal.returns-in-Fails-clause-asked
returns-in-Fails-clause-asked c = search (rules, asked_more, more_grew)

pub returns-in-Fails-clause-undone : goal.returns-in-Fails-clause-undone
returns-in-Fails-clause-undone c = search (rules, asked_more, more_grew)

pub returns-in-Goes-clause-asked : goal.returns-in-Goes-clause-asked
returns-in-Goes-clause-asked c = search (rules, asked_more, more_grew)

pub returns-in-Goes-clause-done : goal.returns-in-Goes-clause-done
returns-in-Goes-clause-done c = search (rules, asked_more, more_grew)
