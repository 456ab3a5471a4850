use Rattle.t7_eobi.proofs.FirstFaultFacts.{fault_is_first, first_fault}
use Rattle.t7_eobi.proofs.laws.the_first_fault_is_told.Goals as goal

pub returns : goal.returns
returns c = λ x bytes fault. (first_fault x bytes fault, fault_is_first x bytes fault)
