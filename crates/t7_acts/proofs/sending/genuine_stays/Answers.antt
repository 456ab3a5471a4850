use Rattle.t7_acts.proofs.Sends.{genuine_kept}
use Rattle.t7_acts.proofs.sending.genuine_stays.Goals as goal

pub returns : goal.returns
returns c = genuine_kept
