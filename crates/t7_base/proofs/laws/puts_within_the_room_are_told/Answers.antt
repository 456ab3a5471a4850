use Rattle.t7_base.proofs.Rooms.{puts_never_fail, puts_told, puts_count}
use Rattle.t7_base.proofs.laws.puts_within_the_room_are_told.Goals as goal

pub returns-clause-never_fails : goal.returns-clause-never_fails
returns-clause-never_fails c = puts_never_fail

pub returns-clause-told : goal.returns-clause-told
returns-clause-told c = puts_told

pub returns-clause-count : goal.returns-clause-count
returns-clause-count c = puts_count
