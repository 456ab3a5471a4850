use Rattle.t7_base.proofs.Rooms.{takes_never_fail, takes_told, takes_count}
use Rattle.t7_base.proofs.laws.takes_within_the_room_are_told.Goals as goal

pub returns-clause-never_fails : goal.returns-clause-never_fails
returns-clause-never_fails c = takes_never_fail

pub returns-clause-told : goal.returns-clause-told
returns-clause-told c = takes_told

pub returns-clause-count : goal.returns-clause-count
returns-clause-count c = takes_count
