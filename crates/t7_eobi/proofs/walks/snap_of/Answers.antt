use Rattle.std.proofs.Common.{rules}
use Rattle.t7_eobi.specs.Datagrams.{snap_of}
use Rattle.t7_eobi.specs.Faults.{message_fault}
use Rattle.t7_eobi.proofs.walks.snap_of.Goals as goal

pub returns-in_err-role : goal.returns-in_err-role
unfolding snap_of message_fault
returns-in_err-role c = search rules

pub sound-requires-clause-fault : goal.sound-requires-clause-fault
unfolding snap_of message_fault
sound-requires-clause-fault c = search rules

pub returns-then-in_channel : goal.returns-then-in_channel
unfolding snap_of message_fault
returns-then-in_channel c = search rules

pub returns-else-in_channel : goal.returns-else-in_channel
unfolding snap_of message_fault
returns-else-in_channel c = search rules
