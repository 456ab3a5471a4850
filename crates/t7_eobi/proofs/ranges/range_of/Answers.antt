use Rattle.std.proofs.Common.{rules}
use Rattle.t7_eobi.specs.Ranges.{range_of}
use Rattle.t7_eobi.proofs.ranges.range_of.Goals as goal

pub returns-in-ApplSeqNum : goal.returns-in-ApplSeqNum
unfolding range_of
returns-in-ApplSeqNum c = search rules

pub returns-in-LastMsgSeqNumProcessed : goal.returns-in-LastMsgSeqNumProcessed
unfolding range_of
returns-in-LastMsgSeqNumProcessed c = search rules

pub returns-in-Side : goal.returns-in-Side
unfolding range_of
returns-in-Side c = search rules

pub returns-in-Price : goal.returns-in-Price
unfolding range_of
returns-in-Price c = search rules

pub returns-in-DisplayQty : goal.returns-in-DisplayQty
unfolding range_of
returns-in-DisplayQty c = search rules

pub returns-in-TrdRegTSTimePriority : goal.returns-in-TrdRegTSTimePriority
unfolding range_of
returns-in-TrdRegTSTimePriority c = search rules

pub returns-in_default : goal.returns-in_default
unfolding range_of
returns-in_default c = search rules
