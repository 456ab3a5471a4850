use Rattle.std.proofs.Common.{rules}
use Rattle.t7_eobi.specs.Faults.{role_fault}
use Rattle.t7_eobi.proofs.faults.role_fault.Goals as goal

pub returns-then-not-has_room : goal.returns-then-not-has_room
unfolding role_fault
returns-then-not-has_room c = search rules

pub returns-then-in_channel : goal.returns-then-in_channel
unfolding role_fault
returns-then-in_channel c = search rules

pub returns-else-in_channel : goal.returns-else-in_channel
unfolding role_fault
returns-else-in_channel c = search rules
