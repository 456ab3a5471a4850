use Rattle.std.proofs.Common.{rules}
use Rattle.t7_eobi.proofs.WalkFacts.{walk_goes, walk_ends, walk_whole, walk_passes, messages_first}
use Rattle.t7_eobi.proofs.walks.next_snap.Goals as goal

pub split_whole-requires : goal.split_whole-requires
split_whole-requires c = search (rules, walk_goes, walk_ends, walk_whole, walk_passes, messages_first)

pub snap_of-item-requires-clause-fault : goal.snap_of-item-requires-clause-fault
snap_of-item-requires-clause-fault c = search (rules, walk_goes, walk_ends, walk_whole, walk_passes, messages_first)

pub returns-in-Some-clause-item : goal.returns-in-Some-clause-item
returns-in-Some-clause-item c = search (rules, walk_goes, walk_ends, walk_whole, walk_passes, messages_first)

pub returns-in-Some-clause-sound : goal.returns-in-Some-clause-sound
returns-in-Some-clause-sound c = search (rules, walk_goes, walk_ends, walk_whole, walk_passes, messages_first)

pub loop-rest-preserved : goal.loop-rest-preserved
loop-rest-preserved c = search (rules, walk_goes, walk_ends, walk_whole, walk_passes, messages_first)

pub returns-clause-none : goal.returns-clause-none
returns-clause-none c = search (rules, walk_goes, walk_ends, walk_whole, walk_passes, messages_first)
