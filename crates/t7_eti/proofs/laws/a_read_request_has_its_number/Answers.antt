use Rattle.t7_eti.proofs.OwnFacts.{number_in_again}
use Rattle.t7_eti.proofs.laws.a_read_request_has_its_number.Goals as goal

pub returns : goal.returns
returns c = number_in_again
