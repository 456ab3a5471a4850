use Rattle.std.proofs.Common.{rules}
use Rattle.t7_eti.specs.Responses.{response_in}
use Rattle.t7_eti.proofs.response.read_response.Goals as goal

pub returns-in-Some : goal.returns-in-Some
unfolding response_in
returns-in-Some c = search rules

pub returns-in-None : goal.returns-in-None
unfolding response_in
returns-in-None c = search rules
