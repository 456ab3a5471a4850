use Rattle.std.proofs.Common.{rules}
use Rattle.t7_eobi.specs.Datagrams.{live_of}
use Rattle.t7_eobi.specs.Faults.{message_fault}
use Rattle.t7_eobi.proofs.walks.live_of.Goals as goal

pub live_as-requires-clause-fault : goal.live_as-requires-clause-fault
unfolding live_of message_fault
live_as-requires-clause-fault c = search rules

pub returns-in-Some : goal.returns-in-Some
unfolding live_of message_fault
returns-in-Some c = search rules

pub returns-in-None : goal.returns-in-None
unfolding live_of message_fault
returns-in-None c = search rules
