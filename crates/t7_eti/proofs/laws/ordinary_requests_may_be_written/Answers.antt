use Rattle.t7_eti.proofs.SayingFacts.{request_known}
use Rattle.t7_eti.proofs.laws.ordinary_requests_may_be_written.Goals as goal

pub returns : goal.returns
returns c = request_known
