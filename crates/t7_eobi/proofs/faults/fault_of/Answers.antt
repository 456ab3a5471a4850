use Rattle.std.proofs.Common.{rules}
use Rattle.t7_eobi.specs.Faults.{fault_of}
use Rattle.t7_eobi.proofs.faults.fault_of.Goals as goal

pub returns-then-bytes-gt-MOST_DATAGRAM : goal.returns-then-bytes-gt-MOST_DATAGRAM
unfolding fault_of
returns-then-bytes-gt-MOST_DATAGRAM c = search rules

pub returns-in-None : goal.returns-in-None
unfolding fault_of
returns-in-None c = search rules

pub returns-in-Some-header_fault : goal.returns-in-Some-header_fault
unfolding fault_of
returns-in-Some-header_fault c = search rules

pub returns : goal.returns
unfolding fault_of
returns c = search rules
