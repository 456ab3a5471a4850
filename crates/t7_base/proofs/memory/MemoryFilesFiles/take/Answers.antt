use Rattle.std.proofs.Common.{rules}
use Rattle.t7_base.specs.Memory.{after_take}
use Rattle.t7_base.proofs.memory.MemoryFilesFiles.take.Goals as goal

pub returns-then-not-has_room-clause-state : goal.returns-then-not-has_room-clause-state
unfolding after_take
returns-then-not-has_room-clause-state c = search rules

pub returns-then-contains-clause-state : goal.returns-then-contains-clause-state
unfolding after_take
returns-then-contains-clause-state c = search rules

pub returns-in_default-clause-state : goal.returns-in_default-clause-state
unfolding after_take
returns-in_default-clause-state c = search rules

pub returns-clause-state : goal.returns-clause-state
unfolding after_take
returns-clause-state c = search rules
