use Rattle.std.proofs.Common.{rules}
use Rattle.t7_eobi.specs.Datagrams.{live_as}
use Rattle.t7_eobi.proofs.MessageFacts.{live_in, beat_is}
use Rattle.t7_eobi.proofs.walks.live_as.Goals as goal

pub sound-m-requires-clause-inside : goal.sound-m-requires-clause-inside
unfolding live_as
sound-m-requires-clause-inside c = search (rules, live_in, beat_is)

pub returns-then-is_live : goal.returns-then-is_live
unfolding live_as
returns-then-is_live c = search (rules, live_in, beat_is)

pub beat_number-requires-clause-role : goal.beat_number-requires-clause-role
unfolding live_as
beat_number-requires-clause-role c = search (rules, live_in, beat_is)

pub returns-then-in_channel : goal.returns-then-in_channel
unfolding live_as
returns-then-in_channel c = search (rules, live_in, beat_is)

pub returns : goal.returns
unfolding live_as
returns c = search (rules, live_in, beat_is)
