use Rattle.std.proofs.Common.{rules}
use Rattle.t7_memory.proofs.Telling.{sent_more, more_grew}
use Rattle.t7_memory.proofs.memory_link.MemoryLinkLink.close.Goals as goal

pub returns-clause-sent : goal.returns-clause-sent
returns-clause-sent c = search (rules, sent_more, more_grew)

pub returns-clause-done : goal.returns-clause-done
returns-clause-done c = search (rules, sent_more, more_grew)
