use Rattle.std.proofs.Common.{rules}
use Rattle.t7_layout.specs.Lookups.{is_layout_of}
use Rattle.t7_layout.proofs.index.is_layout_of.Goals as goal

pub returns-then-same_family : goal.returns-then-same_family
unfolding is_layout_of
returns-then-same_family c = search rules

pub returns-else-same_family : goal.returns-else-same_family
unfolding is_layout_of
returns-else-same_family c = search rules
