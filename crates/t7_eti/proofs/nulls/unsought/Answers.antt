use Rattle.std.proofs.Common.{rules}
use Rattle.t7_eti.specs.Nulls.{unsought}
use Rattle.t7_eti.proofs.nulls.unsought.Goals as goal

pub returns-in-Reject : goal.returns-in-Reject
unfolding unsought
returns-in-Reject c = search rules

pub returns-in_default : goal.returns-in_default
unfolding unsought
returns-in_default c = search rules
