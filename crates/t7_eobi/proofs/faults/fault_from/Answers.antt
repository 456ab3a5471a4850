use Rattle.std.proofs.Common.{rules}
use Rattle.t7_eobi.proofs.FaultFacts.{cut_stops, fault_stops, fault_goes, fault_ends}
use Rattle.t7_eobi.proofs.faults.fault_from.Goals as goal

pub returns-in-None : goal.returns-in-None
returns-in-None c = search (rules, cut_stops, fault_stops, fault_goes, fault_ends)

pub returns-in-Some-message_fault : goal.returns-in-Some-message_fault
returns-in-Some-message_fault c = search (rules, cut_stops, fault_stops, fault_goes, fault_ends)

pub loop-rest-preserved : goal.loop-rest-preserved
loop-rest-preserved c = search (rules, cut_stops, fault_stops, fault_goes, fault_ends)

pub returns : goal.returns
returns c = search (rules, cut_stops, fault_stops, fault_goes, fault_ends)
