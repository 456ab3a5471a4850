use Rattle.std.proofs.Common.{rules}
use Rattle.t7_book.proofs.StepLemmas.{messages_arrival}
use Rattle.t7_book.proofs.arrival.arrive.Goals as goal

pub returns-clause-out : goal.returns-clause-out
returns-clause-out c = search (rules, messages_arrival)
