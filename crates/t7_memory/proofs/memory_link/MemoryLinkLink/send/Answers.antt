use Rattle.std.proofs.Common.{rules}
use Rattle.t7_memory.proofs.Telling.{sent_more, more_grew}
use Rattle.t7_memory.proofs.memory_link.MemoryLinkLink.send.Goals as goal

pub returns-in-Fails-clause-err : goal.returns-in-Fails-clause-err
returns-in-Fails-clause-err c = search (rules, sent_more, more_grew)

pub returns-in-Fails-clause-undone : goal.returns-in-Fails-clause-undone
returns-in-Fails-clause-undone c = search (rules, sent_more, more_grew)

pub returns-in-Goes-clause-ok : goal.returns-in-Goes-clause-ok
returns-in-Goes-clause-ok c = search (rules, sent_more, more_grew)

pub returns-in-Goes-clause-done : goal.returns-in-Goes-clause-done
returns-in-Goes-clause-done c = search (rules, sent_more, more_grew)
