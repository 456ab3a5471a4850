use Rattle.std.proofs.Common.{rules}
use Rattle.t7_eti.specs.Reasons.{reason_number}
use Rattle.t7_eti.proofs.reason.Reason.number.Goals as goal

pub returns-clause-value : goal.returns-clause-value
unfolding reason_number
returns-clause-value c = search rules
