use Rattle.std.proofs.Common.{rules}
use Rattle.t7_eti.proofs.AgainFacts.{request_in_again}
use Rattle.t7_eti.proofs.write.write_request.Goals as goal

pub returns-clause-again : goal.returns-clause-again
returns-clause-again c = search (rules, request_in_again)
