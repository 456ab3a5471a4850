use Rattle.t7_recover.proofs.RangeFacts as lemmas
use Rattle.t7_recover.proofs.laws.ranges_are_slices.Goals as goal

pub returns : goal.returns
returns c = lemmas.ranges_are_slices
