use Rattle.t7_eti.proofs.SayingFacts.{response_known}
use Rattle.t7_eti.proofs.laws.ordinary_responses_may_be_written.Goals as goal

pub returns : goal.returns
returns c = response_known
