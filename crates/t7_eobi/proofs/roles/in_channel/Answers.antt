use Rattle.std.proofs.Common.{rules}
use Rattle.t7_eobi.specs.Datagrams.{in_channel}
use Rattle.t7_eobi.proofs.roles.in_channel.Goals as goal

pub returns-in-EobiHeartbeat : goal.returns-in-EobiHeartbeat
unfolding in_channel
returns-in-EobiHeartbeat c = search rules

pub returns-in_default : goal.returns-in_default
unfolding in_channel
returns-in_default c = search rules

pub returns-in-ProductSummary : goal.returns-in-ProductSummary
unfolding in_channel
returns-in-ProductSummary c = search rules

pub returns-in_default-role : goal.returns-in_default-role
unfolding in_channel
returns-in_default-role c = search rules
