use Rattle.std.proofs.Common.{rules}
use Rattle.t7_eti.specs.Responses.{response_of}
use Rattle.t7_eti.proofs.response.response_of.Goals as goal

pub returns-then-not-is_response : goal.returns-then-not-is_response
unfolding response_of
returns-then-not-is_response c = search rules

pub returns-in-Some : goal.returns-in-Some
unfolding response_of
returns-in-Some c = search rules

pub returns-in-Some-first_out : goal.returns-in-Some-first_out
unfolding response_of
returns-in-Some-first_out c = search rules

pub returns-in-None : goal.returns-in-None
unfolding response_of
returns-in-None c = search rules
