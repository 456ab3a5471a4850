use Rattle.t7_eti.proofs.AgainFacts.{response_under}
use Rattle.t7_eti.proofs.laws.a_said_response_is_read.Goals as goal

pub returns : goal.returns
returns c = response_under
