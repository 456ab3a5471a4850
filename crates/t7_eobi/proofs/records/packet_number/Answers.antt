use Rattle.std.proofs.Common.{rules}
use Rattle.t7_eobi.specs.Ranges.{range_of, counted, is_live}
use Rattle.t7_fields.specs.Messages.{is_among}
use Rattle.t7_layout.specs.Roles.{name_number, required, kind_of}
use Rattle.t7_eobi.proofs.records.packet_number.Goals as goal

pub sequence_number-requires-clause-there : goal.sequence_number-requires-clause-there
unfolding range_of counted is_among name_number is_live required kind_of
sequence_number-requires-clause-there c = search rules

pub sequence_number-requires-clause-kind : goal.sequence_number-requires-clause-kind
unfolding range_of counted is_among name_number is_live required kind_of
sequence_number-requires-clause-kind c = search rules

pub sequence_number-requires-clause-range : goal.sequence_number-requires-clause-range
unfolding range_of counted is_among name_number is_live required kind_of
sequence_number-requires-clause-range c = search rules
