use Rattle.std.proofs.Common.{rules}
use Rattle.t7_eobi.specs.Ranges.{range_of}
use Rattle.t7_layout.specs.Roles.{kind_of}
use Rattle.t7_eobi.proofs.MessageFacts.{live_counts}
use Rattle.t7_eobi.proofs.walks.live_number.Goals as goal

pub sequence_number-requires-clause-there : goal.sequence_number-requires-clause-there
unfolding range_of kind_of
sequence_number-requires-clause-there c = search (rules, live_counts)

pub sequence_number-requires-clause-kind : goal.sequence_number-requires-clause-kind
unfolding range_of kind_of
sequence_number-requires-clause-kind c = search (rules, live_counts)

pub sequence_number-requires-clause-range : goal.sequence_number-requires-clause-range
unfolding range_of kind_of
sequence_number-requires-clause-range c = search (rules, live_counts)
