use Rattle.std.proofs.Common.{rules}
use Rattle.t7_layout.specs.Lookups.{is_place}
use Rattle.t7_layout.proofs.templates.is_place.Goals as goal

pub returns-then-same_kind : goal.returns-then-same_kind
unfolding is_place
returns-then-same_kind c = search rules

pub returns-else-same_kind : goal.returns-else-same_kind
unfolding is_place
returns-else-same_kind c = search rules
