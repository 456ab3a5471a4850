use Rattle.t7_eti.proofs.AgainFacts.{request_under}
use Rattle.t7_eti.proofs.laws.a_said_request_is_read.Goals as goal

pub returns : goal.returns
returns c = request_under
