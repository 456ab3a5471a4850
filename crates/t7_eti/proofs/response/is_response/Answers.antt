use Rattle.std.proofs.Common.{rules}
use Rattle.t7_eti.specs.Responses.{is_response}
use Rattle.t7_eti.proofs.response.is_response.Goals as goal

pub returns-in-LogonResponse : goal.returns-in-LogonResponse
unfolding is_response
returns-in-LogonResponse c = search rules

pub returns-in_default : goal.returns-in_default
unfolding is_response
returns-in_default c = search rules
