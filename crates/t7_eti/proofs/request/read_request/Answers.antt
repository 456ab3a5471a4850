use Rattle.std.proofs.Common.{rules}
use Rattle.t7_eti.specs.Requests.{request_in}
use Rattle.t7_eti.proofs.request.read_request.Goals as goal

pub returns-in-Some-clause-value : goal.returns-in-Some-clause-value
unfolding request_in
returns-in-Some-clause-value c = search rules

pub returns-in-None-clause-value : goal.returns-in-None-clause-value
unfolding request_in
returns-in-None-clause-value c = search rules
