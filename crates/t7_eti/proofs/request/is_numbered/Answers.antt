use Rattle.std.proofs.Common.{rules}
use Rattle.t7_eti.specs.Requests.{is_numbered}
use Rattle.t7_eti.proofs.request.is_numbered.Goals as goal

pub returns-in-EtiHeartbeat : goal.returns-in-EtiHeartbeat
unfolding is_numbered
returns-in-EtiHeartbeat c = search rules

pub returns-in_default : goal.returns-in_default
unfolding is_numbered
returns-in_default c = search rules
