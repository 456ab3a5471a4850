use Rattle.std.proofs.Common.{rules}
use Rattle.t7_eobi.specs.Records.{snap_as}
use Rattle.t7_eobi.specs.Datagrams.{in_channel}
use Rattle.t7_eobi.specs.Ranges.{counted, range_of, is_live}
use Rattle.t7_fields.specs.Messages.{is_among}
use Rattle.t7_layout.specs.Roles.{name_number, required, kind_of, width_in}
use Rattle.t7_eobi.proofs.records.snap.Goals as goal

pub last_number-requires-clause-there : goal.last_number-requires-clause-there
unfolding snap_as in_channel counted is_among name_number range_of is_live required kind_of width_in
last_number-requires-clause-there c = search rules

pub last_number-requires-clause-kind : goal.last_number-requires-clause-kind
unfolding snap_as in_channel counted is_among name_number range_of is_live required kind_of width_in
last_number-requires-clause-kind c = search rules

pub last_number-requires-clause-range : goal.last_number-requires-clause-range
unfolding snap_as in_channel counted is_among name_number range_of is_live required kind_of width_in
last_number-requires-clause-range c = search rules

pub number-requires-clause-there : goal.number-requires-clause-there
unfolding snap_as in_channel counted is_among name_number range_of is_live required kind_of width_in
number-requires-clause-there c = search rules

pub number-requires-clause-kind : goal.number-requires-clause-kind
unfolding snap_as in_channel counted is_among name_number range_of is_live required kind_of width_in
number-requires-clause-kind c = search rules

pub half-requires-clause-there : goal.half-requires-clause-there
unfolding snap_as in_channel counted is_among name_number range_of is_live required kind_of width_in
half-requires-clause-there c = search rules

pub half-requires-clause-kind : goal.half-requires-clause-kind
unfolding snap_as in_channel counted is_among name_number range_of is_live required kind_of width_in
half-requires-clause-kind c = search rules

pub half-requires-clause-width : goal.half-requires-clause-width
unfolding snap_as in_channel counted is_among name_number range_of is_live required kind_of width_in
half-requires-clause-width c = search rules

pub side-requires-clause-there : goal.side-requires-clause-there
unfolding snap_as in_channel counted is_among name_number range_of is_live required kind_of width_in
side-requires-clause-there c = search rules

pub side-requires-clause-kind : goal.side-requires-clause-kind
unfolding snap_as in_channel counted is_among name_number range_of is_live required kind_of width_in
side-requires-clause-kind c = search rules

pub price-requires-clause-there : goal.price-requires-clause-there
unfolding snap_as in_channel counted is_among name_number range_of is_live required kind_of width_in
price-requires-clause-there c = search rules

pub price-requires-clause-kind : goal.price-requires-clause-kind
unfolding snap_as in_channel counted is_among name_number range_of is_live required kind_of width_in
price-requires-clause-kind c = search rules

pub price-requires-clause-range : goal.price-requires-clause-range
unfolding snap_as in_channel counted is_among name_number range_of is_live required kind_of width_in
price-requires-clause-range c = search rules

pub stamp-requires-clause-there : goal.stamp-requires-clause-there
unfolding snap_as in_channel counted is_among name_number range_of is_live required kind_of width_in
stamp-requires-clause-there c = search rules

pub stamp-requires-clause-kind : goal.stamp-requires-clause-kind
unfolding snap_as in_channel counted is_among name_number range_of is_live required kind_of width_in
stamp-requires-clause-kind c = search rules

pub stamp-requires-clause-range : goal.stamp-requires-clause-range
unfolding snap_as in_channel counted is_among name_number range_of is_live required kind_of width_in
stamp-requires-clause-range c = search rules

pub qty-requires-clause-there : goal.qty-requires-clause-there
unfolding snap_as in_channel counted is_among name_number range_of is_live required kind_of width_in
qty-requires-clause-there c = search rules

pub qty-requires-clause-kind : goal.qty-requires-clause-kind
unfolding snap_as in_channel counted is_among name_number range_of is_live required kind_of width_in
qty-requires-clause-kind c = search rules

pub qty-requires-clause-range : goal.qty-requires-clause-range
unfolding snap_as in_channel counted is_among name_number range_of is_live required kind_of width_in
qty-requires-clause-range c = search rules

pub unreachable-requires : goal.unreachable-requires
unfolding snap_as in_channel counted is_among name_number range_of is_live required kind_of width_in
unreachable-requires c = search rules

pub returns-in-ProductSummary : goal.returns-in-ProductSummary
unfolding snap_as in_channel counted is_among name_number range_of is_live required kind_of width_in
returns-in-ProductSummary c = search rules

pub returns-in-InstrumentSummary : goal.returns-in-InstrumentSummary
unfolding snap_as in_channel counted is_among name_number range_of is_live required kind_of width_in
returns-in-InstrumentSummary c = search rules

pub returns-in-SnapshotOrder : goal.returns-in-SnapshotOrder
unfolding snap_as in_channel counted is_among name_number range_of is_live required kind_of width_in
returns-in-SnapshotOrder c = search rules
