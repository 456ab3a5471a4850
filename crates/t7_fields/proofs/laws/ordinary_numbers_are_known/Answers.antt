use Rattle.t7_fields.proofs.WriteFacts.{ordinary_known}
use Rattle.t7_fields.proofs.laws.ordinary_numbers_are_known.Goals as goal

pub returns : goal.returns
returns c = ordinary_known
