use Rattle.std.proofs.Common.{rules}
use Rattle.t7_eobi.specs.Ranges.{counted}
use Rattle.t7_eobi.proofs.ranges.counted.Goals as goal

pub returns : goal.returns
unfolding counted
returns c = search rules
