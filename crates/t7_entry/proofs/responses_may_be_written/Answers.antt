use Rattle.t7_entry.proofs.Sayings.{told_well}
use Rattle.t7_entry.proofs.responses_may_be_written.Goals as goal

pub returns : goal.returns
returns c = told_well
