use Rattle.std.proofs.Common.{rules}
use Rattle.t7_eobi.specs.Ranges.{is_live}
use Rattle.t7_eobi.proofs.roles.is_live.Goals as goal

pub returns-in-OrderAdd : goal.returns-in-OrderAdd
unfolding is_live
returns-in-OrderAdd c = search rules

pub returns-in_default : goal.returns-in_default
unfolding is_live
returns-in_default c = search rules
