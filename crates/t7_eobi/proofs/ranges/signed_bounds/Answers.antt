use Rattle.std.proofs.Common.{refl}
use Rattle.t7_eobi.specs.Ranges.{in_range}
use Rattle.t7_eobi.proofs.ranges.signed_bounds.Goals as goal

pub returns-in-Any : goal.returns-in-Any
unfolding in_range
returns-in-Any c = λ z low high. rw (c.in-Any.is, low, high) refl

pub returns-in-Sequence : goal.returns-in-Sequence
unfolding in_range
returns-in-Sequence c = λ z low high. rw c.in-Sequence.is refl

pub returns-in-Processed : goal.returns-in-Processed
unfolding in_range
returns-in-Processed c = λ z low high. rw c.in-Processed.is refl

pub returns-in-Side : goal.returns-in-Side
unfolding in_range
returns-in-Side c = λ z low high. rw c.in-Side.is refl

pub returns-in-Price : goal.returns-in-Price
unfolding in_range
returns-in-Price c = λ z low high. rw c.in-Price.is refl

pub returns-in-Quantity : goal.returns-in-Quantity
unfolding in_range
returns-in-Quantity c = λ z low high. rw c.in-Quantity.is refl

pub returns-in-Stamp : goal.returns-in-Stamp
unfolding in_range
returns-in-Stamp c = λ z low high. rw c.in-Stamp.is refl
