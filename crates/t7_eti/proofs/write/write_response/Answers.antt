use Rattle.std.proofs.Common.{rules}
use Rattle.t7_eti.proofs.AgainFacts.{response_in_again}
use Rattle.t7_eti.proofs.write.write_response.Goals as goal

pub returns-clause-again : goal.returns-clause-again
returns-clause-again c = search (rules, response_in_again)
