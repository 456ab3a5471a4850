use Rattle.t7_base.proofs.FirstFaultFacts.{fault_first, first_fault, none_sound, sound_none}
use Rattle.t7_base.proofs.laws.the_first_fault_is_told.Goals as goal

pub returns-clause-fault : goal.returns-clause-fault
returns-clause-fault c = λ rows fault. (fault_first rows fault, first_fault rows fault)

pub returns-clause-valid : goal.returns-clause-valid
returns-clause-valid c = λ rows. (none_sound rows, sound_none rows)
