use Rattle.std.proofs.Common.{rules}
use Rattle.t7_book.proofs.StepLemmas.{settled_some, settled_none}
use Rattle.t7_linear.proofs.arrival.settle.Goals as goal

pub returns-in-Some : goal.returns-in-Some
returns-in-Some c = search (rules, settled_some, settled_none)

pub returns-in_default : goal.returns-in_default
returns-in_default c = search (rules, settled_some, settled_none)
