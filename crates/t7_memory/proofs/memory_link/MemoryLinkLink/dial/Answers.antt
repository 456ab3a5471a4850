use Rattle.std.proofs.Common.{rules}
use Rattle.t7_memory.proofs.Telling.{asked_more, more_grew}
use Rattle.t7_memory.proofs.memory_link.MemoryLinkLink.dial.Goals as goal

pub returns-then-self-clause-asked : goal.returns-then-self-clause-asked
returns-then-self-clause-asked c = search (rules, asked_more, more_grew)

pub returns-then-self-clause-undone : goal.returns-then-self-clause-undone
returns-then-self-clause-undone c = search (rules, asked_more, more_grew)

pub returns-in-Fails-clause-asked : goal.returns-in-Fails-clause-asked
returns-in-Fails-clause-asked c = search (rules, asked_more, more_grew)

pub returns-in-Fails-clause-undone : goal.returns-in-Fails-clause-undone
returns-in-Fails-clause-undone c = search (rules, asked_more, more_grew)

pub returns-else-self-clause-asked : goal.returns-else-self-clause-asked
returns-else-self-clause-asked c = search (rules, asked_more, more_grew)

pub returns-else-self-clause-done : goal.returns-else-self-clause-done
returns-else-self-clause-done c = search (rules, asked_more, more_grew)
