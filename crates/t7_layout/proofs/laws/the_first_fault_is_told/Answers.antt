use Rattle.t7_layout.proofs.LawFacts.{fault_first, first_fault, sound_valid, valid_sound}
use Rattle.t7_layout.proofs.laws.the_first_fault_is_told.Goals as goal

pub returns-clause-fault : goal.returns-clause-fault
returns-clause-fault c = λ rows fault. (fault_first rows fault, first_fault rows fault)

pub returns-clause-valid : goal.returns-clause-valid
returns-clause-valid c = λ rows. (valid_sound rows, sound_valid rows)
