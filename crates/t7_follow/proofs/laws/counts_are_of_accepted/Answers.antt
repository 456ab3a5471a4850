use Rattle.t7_follow.proofs.Counting.{counts_accepted}
use Rattle.t7_follow.proofs.laws.counts_are_of_accepted.Goals as goal

pub returns : goal.returns
returns c = counts_accepted
