use Rattle.t7_script.proofs.Clearing.{clears_listed}
use Rattle.t7_script.proofs.laws.a_cleared_security_is_listed.Goals as goal

pub returns : goal.returns
returns c = clears_listed
