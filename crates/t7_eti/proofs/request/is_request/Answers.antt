use Rattle.std.proofs.Common.{rules}
use Rattle.t7_eti.specs.Requests.{is_request}
use Rattle.t7_eti.proofs.request.is_request.Goals as goal

pub returns-in-LogonRequest : goal.returns-in-LogonRequest
unfolding is_request
returns-in-LogonRequest c = search rules

pub returns-in_default : goal.returns-in_default
unfolding is_request
returns-in_default c = search rules
