use Rattle.std.proofs.Common.{rules}
use Rattle.t7_eti.specs.Requests.{request_of}
use Rattle.t7_eti.proofs.request.request_of.Goals as goal

pub returns-then-not-is_request-clause-value : goal.returns-then-not-is_request-clause-value
unfolding request_of
returns-then-not-is_request-clause-value c = search rules

pub returns-in-Some-clause-value : goal.returns-in-Some-clause-value
unfolding request_of
returns-in-Some-clause-value c = search rules

pub returns-in-None-clause-value : goal.returns-in-None-clause-value
unfolding request_of
returns-in-None-clause-value c = search rules
