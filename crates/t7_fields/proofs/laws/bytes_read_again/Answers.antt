use Rattle.t7_layout.proofs.BytesFacts.{bytes_again}
use Rattle.t7_fields.proofs.laws.bytes_read_again.Goals as goal

pub returns : goal.returns
returns c = bytes_again
