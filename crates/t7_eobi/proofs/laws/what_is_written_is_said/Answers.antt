use Rattle.t7_eobi.proofs.SayingFacts.{beat_says, header_says, public_says, snap_says}
use Rattle.t7_eobi.proofs.laws.what_is_written_is_said.Goals as goal

pub returns : goal.returns
returns c = record { header = header_says; message = public_says; beat = beat_says; snap = snap_says }
