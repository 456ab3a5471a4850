use Rattle.std.proofs.Common.{rules}
use Rattle.t7_eobi.specs.Records.{resting_of}
use Rattle.t7_eobi.specs.Ranges.{counted, range_of, is_live}
use Rattle.t7_fields.specs.Messages.{is_among}
use Rattle.t7_layout.specs.Roles.{name_number, required, kind_of}
use Rattle.t7_eobi.proofs.records.resting.Goals as goal

pub number-requires-clause-kind : goal.number-requires-clause-kind
unfolding resting_of counted is_among name_number range_of is_live required kind_of
number-requires-clause-kind c = search rules

pub side-requires-clause-kind : goal.side-requires-clause-kind
unfolding resting_of counted is_among name_number range_of is_live required kind_of
side-requires-clause-kind c = search rules

pub price-requires-clause-kind : goal.price-requires-clause-kind
unfolding resting_of counted is_among name_number range_of is_live required kind_of
price-requires-clause-kind c = search rules

pub price-requires-clause-range : goal.price-requires-clause-range
unfolding resting_of counted is_among name_number range_of is_live required kind_of
price-requires-clause-range c = search rules

pub stamp-requires-clause-kind : goal.stamp-requires-clause-kind
unfolding resting_of counted is_among name_number range_of is_live required kind_of
stamp-requires-clause-kind c = search rules

pub stamp-requires-clause-range : goal.stamp-requires-clause-range
unfolding resting_of counted is_among name_number range_of is_live required kind_of
stamp-requires-clause-range c = search rules

pub qty-requires-clause-kind : goal.qty-requires-clause-kind
unfolding resting_of counted is_among name_number range_of is_live required kind_of
qty-requires-clause-kind c = search rules

pub qty-requires-clause-range : goal.qty-requires-clause-range
unfolding resting_of counted is_among name_number range_of is_live required kind_of
qty-requires-clause-range c = search rules

pub returns : goal.returns
unfolding resting_of counted is_among name_number range_of is_live required kind_of
returns c = search rules
