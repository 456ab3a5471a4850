use Rattle.std.proofs.Common.{rules}
use Rattle.t7_eobi.specs.Faults.{message_fault}
use Rattle.t7_eobi.proofs.faults.message_fault.Goals as goal

pub returns-in-Some : goal.returns-in-Some
unfolding message_fault
returns-in-Some c = search rules

pub returns-in-None : goal.returns-in-None
unfolding message_fault
returns-in-None c = search rules
