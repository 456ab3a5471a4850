use Rattle.t7_layout.proofs.BytesFacts.{number_again}
use Rattle.t7_fields.proofs.laws.numbers_read_again.Goals as goal

pub returns : goal.returns
returns c = number_again
