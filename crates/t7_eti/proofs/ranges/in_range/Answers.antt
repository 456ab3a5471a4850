use Rattle.std.proofs.Common.{rules}
use Rattle.t7_eti.specs.Ranges.{in_range}
use Rattle.t7_eti.proofs.ranges.in_range.Goals as goal

pub returns-then-number-ge1 : goal.returns-then-number-ge1
unfolding in_range
returns-then-number-ge1 c = search rules

pub returns-else-number-ge1 : goal.returns-else-number-ge1
unfolding in_range
returns-else-number-ge1 c = search rules

pub returns-then-number-ge1-2 : goal.returns-then-number-ge1-2
unfolding in_range
returns-then-number-ge1-2 c = search rules

pub returns-else-number-ge1-2 : goal.returns-else-number-ge1-2
unfolding in_range
returns-else-number-ge1-2 c = search rules

pub returns-then-number-ge1-3 : goal.returns-then-number-ge1-3
unfolding in_range
returns-then-number-ge1-3 c = search rules

pub returns-else-number-ge1-3 : goal.returns-else-number-ge1-3
unfolding in_range
returns-else-number-ge1-3 c = search rules

pub returns-then-number-geminus100000000000000000 : goal.returns-then-number-geminus100000000000000000
unfolding in_range
returns-then-number-geminus100000000000000000 c = search rules

pub returns-else-number-geminus100000000000000000 : goal.returns-else-number-geminus100000000000000000
unfolding in_range
returns-else-number-geminus100000000000000000 c = search rules

pub returns-then-number-ge1-4 : goal.returns-then-number-ge1-4
unfolding in_range
returns-then-number-ge1-4 c = search rules

pub returns-else-number-ge1-4 : goal.returns-else-number-ge1-4
unfolding in_range
returns-else-number-ge1-4 c = search rules

pub returns-in_default : goal.returns-in_default
unfolding in_range
returns-in_default c = search rules
