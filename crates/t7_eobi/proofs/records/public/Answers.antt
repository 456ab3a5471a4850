use Rattle.std.proofs.Common.{rules}
use Rattle.t7_eobi.specs.Records.{public_as}
use Rattle.t7_eobi.specs.Ranges.{counted, range_of, is_live}
use Rattle.t7_fields.specs.Messages.{is_among}
use Rattle.t7_layout.specs.Roles.{name_number, required, kind_of}
use Rattle.t7_eobi.proofs.records.public.Goals as goal

pub resting-requires-clause-security : goal.resting-requires-clause-security
unfolding public_as counted is_among name_number range_of is_live required kind_of
resting-requires-clause-security c = search rules

pub resting-requires-clause-side : goal.resting-requires-clause-side
unfolding public_as counted is_among name_number range_of is_live required kind_of
resting-requires-clause-side c = search rules

pub resting-requires-clause-price : goal.resting-requires-clause-price
unfolding public_as counted is_among name_number range_of is_live required kind_of
resting-requires-clause-price c = search rules

pub resting-requires-clause-stamp : goal.resting-requires-clause-stamp
unfolding public_as counted is_among name_number range_of is_live required kind_of
resting-requires-clause-stamp c = search rules

pub resting-requires-clause-qty : goal.resting-requires-clause-qty
unfolding public_as counted is_among name_number range_of is_live required kind_of
resting-requires-clause-qty c = search rules

pub number-requires-clause-there : goal.number-requires-clause-there
unfolding public_as counted is_among name_number range_of is_live required kind_of
number-requires-clause-there c = search rules

pub number-requires-clause-kind : goal.number-requires-clause-kind
unfolding public_as counted is_among name_number range_of is_live required kind_of
number-requires-clause-kind c = search rules

pub side-requires-clause-there : goal.side-requires-clause-there
unfolding public_as counted is_among name_number range_of is_live required kind_of
side-requires-clause-there c = search rules

pub side-requires-clause-kind : goal.side-requires-clause-kind
unfolding public_as counted is_among name_number range_of is_live required kind_of
side-requires-clause-kind c = search rules

pub stamp-requires-clause-there : goal.stamp-requires-clause-there
unfolding public_as counted is_among name_number range_of is_live required kind_of
stamp-requires-clause-there c = search rules

pub stamp-requires-clause-kind : goal.stamp-requires-clause-kind
unfolding public_as counted is_among name_number range_of is_live required kind_of
stamp-requires-clause-kind c = search rules

pub stamp-requires-clause-range : goal.stamp-requires-clause-range
unfolding public_as counted is_among name_number range_of is_live required kind_of
stamp-requires-clause-range c = search rules

pub price-requires-clause-there : goal.price-requires-clause-there
unfolding public_as counted is_among name_number range_of is_live required kind_of
price-requires-clause-there c = search rules

pub price-requires-clause-kind : goal.price-requires-clause-kind
unfolding public_as counted is_among name_number range_of is_live required kind_of
price-requires-clause-kind c = search rules

pub price-requires-clause-range : goal.price-requires-clause-range
unfolding public_as counted is_among name_number range_of is_live required kind_of
price-requires-clause-range c = search rules

pub qty-requires-clause-there : goal.qty-requires-clause-there
unfolding public_as counted is_among name_number range_of is_live required kind_of
qty-requires-clause-there c = search rules

pub qty-requires-clause-kind : goal.qty-requires-clause-kind
unfolding public_as counted is_among name_number range_of is_live required kind_of
qty-requires-clause-kind c = search rules

pub qty-requires-clause-range : goal.qty-requires-clause-range
unfolding public_as counted is_among name_number range_of is_live required kind_of
qty-requires-clause-range c = search rules

pub stamp-requires-in-OrderModify-clause-there : goal.stamp-requires-in-OrderModify-clause-there
unfolding public_as counted is_among name_number range_of is_live required kind_of
stamp-requires-in-OrderModify-clause-there c = search rules

pub stamp-requires-in-OrderModify-clause-kind : goal.stamp-requires-in-OrderModify-clause-kind
unfolding public_as counted is_among name_number range_of is_live required kind_of
stamp-requires-in-OrderModify-clause-kind c = search rules

pub stamp-requires-in-OrderModify-clause-range : goal.stamp-requires-in-OrderModify-clause-range
unfolding public_as counted is_among name_number range_of is_live required kind_of
stamp-requires-in-OrderModify-clause-range c = search rules

pub price-requires-in-OrderModify-clause-there : goal.price-requires-in-OrderModify-clause-there
unfolding public_as counted is_among name_number range_of is_live required kind_of
price-requires-in-OrderModify-clause-there c = search rules

pub price-requires-in-OrderModify-clause-kind : goal.price-requires-in-OrderModify-clause-kind
unfolding public_as counted is_among name_number range_of is_live required kind_of
price-requires-in-OrderModify-clause-kind c = search rules

pub price-requires-in-OrderModify-clause-range : goal.price-requires-in-OrderModify-clause-range
unfolding public_as counted is_among name_number range_of is_live required kind_of
price-requires-in-OrderModify-clause-range c = search rules

pub qty-requires-in-OrderModify-clause-there : goal.qty-requires-in-OrderModify-clause-there
unfolding public_as counted is_among name_number range_of is_live required kind_of
qty-requires-in-OrderModify-clause-there c = search rules

pub qty-requires-in-OrderModify-clause-kind : goal.qty-requires-in-OrderModify-clause-kind
unfolding public_as counted is_among name_number range_of is_live required kind_of
qty-requires-in-OrderModify-clause-kind c = search rules

pub qty-requires-in-OrderModify-clause-range : goal.qty-requires-in-OrderModify-clause-range
unfolding public_as counted is_among name_number range_of is_live required kind_of
qty-requires-in-OrderModify-clause-range c = search rules

pub number-requires-in-OrderModifySamePriority-clause-there : goal.number-requires-in-OrderModifySamePriority-clause-there
unfolding public_as counted is_among name_number range_of is_live required kind_of
number-requires-in-OrderModifySamePriority-clause-there c = search rules

pub number-requires-in-OrderModifySamePriority-clause-kind : goal.number-requires-in-OrderModifySamePriority-clause-kind
unfolding public_as counted is_among name_number range_of is_live required kind_of
number-requires-in-OrderModifySamePriority-clause-kind c = search rules

pub side-requires-in-OrderModifySamePriority-clause-there : goal.side-requires-in-OrderModifySamePriority-clause-there
unfolding public_as counted is_among name_number range_of is_live required kind_of
side-requires-in-OrderModifySamePriority-clause-there c = search rules

pub side-requires-in-OrderModifySamePriority-clause-kind : goal.side-requires-in-OrderModifySamePriority-clause-kind
unfolding public_as counted is_among name_number range_of is_live required kind_of
side-requires-in-OrderModifySamePriority-clause-kind c = search rules

pub stamp-requires-in-OrderModifySamePriority-clause-there : goal.stamp-requires-in-OrderModifySamePriority-clause-there
unfolding public_as counted is_among name_number range_of is_live required kind_of
stamp-requires-in-OrderModifySamePriority-clause-there c = search rules

pub stamp-requires-in-OrderModifySamePriority-clause-kind : goal.stamp-requires-in-OrderModifySamePriority-clause-kind
unfolding public_as counted is_among name_number range_of is_live required kind_of
stamp-requires-in-OrderModifySamePriority-clause-kind c = search rules

pub stamp-requires-in-OrderModifySamePriority-clause-range : goal.stamp-requires-in-OrderModifySamePriority-clause-range
unfolding public_as counted is_among name_number range_of is_live required kind_of
stamp-requires-in-OrderModifySamePriority-clause-range c = search rules

pub price-requires-in-OrderModifySamePriority-clause-there : goal.price-requires-in-OrderModifySamePriority-clause-there
unfolding public_as counted is_among name_number range_of is_live required kind_of
price-requires-in-OrderModifySamePriority-clause-there c = search rules

pub price-requires-in-OrderModifySamePriority-clause-kind : goal.price-requires-in-OrderModifySamePriority-clause-kind
unfolding public_as counted is_among name_number range_of is_live required kind_of
price-requires-in-OrderModifySamePriority-clause-kind c = search rules

pub price-requires-in-OrderModifySamePriority-clause-range : goal.price-requires-in-OrderModifySamePriority-clause-range
unfolding public_as counted is_among name_number range_of is_live required kind_of
price-requires-in-OrderModifySamePriority-clause-range c = search rules

pub qty-requires-in-OrderModifySamePriority-clause-there : goal.qty-requires-in-OrderModifySamePriority-clause-there
unfolding public_as counted is_among name_number range_of is_live required kind_of
qty-requires-in-OrderModifySamePriority-clause-there c = search rules

pub qty-requires-in-OrderModifySamePriority-clause-kind : goal.qty-requires-in-OrderModifySamePriority-clause-kind
unfolding public_as counted is_among name_number range_of is_live required kind_of
qty-requires-in-OrderModifySamePriority-clause-kind c = search rules

pub qty-requires-in-OrderModifySamePriority-clause-range : goal.qty-requires-in-OrderModifySamePriority-clause-range
unfolding public_as counted is_among name_number range_of is_live required kind_of
qty-requires-in-OrderModifySamePriority-clause-range c = search rules

pub qty-requires-in-OrderModifySamePriority-2-clause-there : goal.qty-requires-in-OrderModifySamePriority-2-clause-there
unfolding public_as counted is_among name_number range_of is_live required kind_of
qty-requires-in-OrderModifySamePriority-2-clause-there c = search rules

pub qty-requires-in-OrderModifySamePriority-2-clause-kind : goal.qty-requires-in-OrderModifySamePriority-2-clause-kind
unfolding public_as counted is_among name_number range_of is_live required kind_of
qty-requires-in-OrderModifySamePriority-2-clause-kind c = search rules

pub qty-requires-in-OrderModifySamePriority-2-clause-range : goal.qty-requires-in-OrderModifySamePriority-2-clause-range
unfolding public_as counted is_among name_number range_of is_live required kind_of
qty-requires-in-OrderModifySamePriority-2-clause-range c = search rules

pub resting-requires-in-OrderDelete-clause-security : goal.resting-requires-in-OrderDelete-clause-security
unfolding public_as counted is_among name_number range_of is_live required kind_of
resting-requires-in-OrderDelete-clause-security c = search rules

pub resting-requires-in-OrderDelete-clause-side : goal.resting-requires-in-OrderDelete-clause-side
unfolding public_as counted is_among name_number range_of is_live required kind_of
resting-requires-in-OrderDelete-clause-side c = search rules

pub resting-requires-in-OrderDelete-clause-price : goal.resting-requires-in-OrderDelete-clause-price
unfolding public_as counted is_among name_number range_of is_live required kind_of
resting-requires-in-OrderDelete-clause-price c = search rules

pub resting-requires-in-OrderDelete-clause-stamp : goal.resting-requires-in-OrderDelete-clause-stamp
unfolding public_as counted is_among name_number range_of is_live required kind_of
resting-requires-in-OrderDelete-clause-stamp c = search rules

pub resting-requires-in-OrderDelete-clause-qty : goal.resting-requires-in-OrderDelete-clause-qty
unfolding public_as counted is_among name_number range_of is_live required kind_of
resting-requires-in-OrderDelete-clause-qty c = search rules

pub number-requires-in-OrderMassDelete-clause-there : goal.number-requires-in-OrderMassDelete-clause-there
unfolding public_as counted is_among name_number range_of is_live required kind_of
number-requires-in-OrderMassDelete-clause-there c = search rules

pub number-requires-in-OrderMassDelete-clause-kind : goal.number-requires-in-OrderMassDelete-clause-kind
unfolding public_as counted is_among name_number range_of is_live required kind_of
number-requires-in-OrderMassDelete-clause-kind c = search rules

pub number-requires-in-PartialOrderExecution-clause-there : goal.number-requires-in-PartialOrderExecution-clause-there
unfolding public_as counted is_among name_number range_of is_live required kind_of
number-requires-in-PartialOrderExecution-clause-there c = search rules

pub number-requires-in-PartialOrderExecution-clause-kind : goal.number-requires-in-PartialOrderExecution-clause-kind
unfolding public_as counted is_among name_number range_of is_live required kind_of
number-requires-in-PartialOrderExecution-clause-kind c = search rules

pub side-requires-in-PartialOrderExecution-clause-there : goal.side-requires-in-PartialOrderExecution-clause-there
unfolding public_as counted is_among name_number range_of is_live required kind_of
side-requires-in-PartialOrderExecution-clause-there c = search rules

pub side-requires-in-PartialOrderExecution-clause-kind : goal.side-requires-in-PartialOrderExecution-clause-kind
unfolding public_as counted is_among name_number range_of is_live required kind_of
side-requires-in-PartialOrderExecution-clause-kind c = search rules

pub stamp-requires-in-PartialOrderExecution-clause-there : goal.stamp-requires-in-PartialOrderExecution-clause-there
unfolding public_as counted is_among name_number range_of is_live required kind_of
stamp-requires-in-PartialOrderExecution-clause-there c = search rules

pub stamp-requires-in-PartialOrderExecution-clause-kind : goal.stamp-requires-in-PartialOrderExecution-clause-kind
unfolding public_as counted is_among name_number range_of is_live required kind_of
stamp-requires-in-PartialOrderExecution-clause-kind c = search rules

pub stamp-requires-in-PartialOrderExecution-clause-range : goal.stamp-requires-in-PartialOrderExecution-clause-range
unfolding public_as counted is_among name_number range_of is_live required kind_of
stamp-requires-in-PartialOrderExecution-clause-range c = search rules

pub price-requires-in-PartialOrderExecution-clause-there : goal.price-requires-in-PartialOrderExecution-clause-there
unfolding public_as counted is_among name_number range_of is_live required kind_of
price-requires-in-PartialOrderExecution-clause-there c = search rules

pub price-requires-in-PartialOrderExecution-clause-kind : goal.price-requires-in-PartialOrderExecution-clause-kind
unfolding public_as counted is_among name_number range_of is_live required kind_of
price-requires-in-PartialOrderExecution-clause-kind c = search rules

pub price-requires-in-PartialOrderExecution-clause-range : goal.price-requires-in-PartialOrderExecution-clause-range
unfolding public_as counted is_among name_number range_of is_live required kind_of
price-requires-in-PartialOrderExecution-clause-range c = search rules

pub qty-requires-in-PartialOrderExecution-clause-there : goal.qty-requires-in-PartialOrderExecution-clause-there
unfolding public_as counted is_among name_number range_of is_live required kind_of
qty-requires-in-PartialOrderExecution-clause-there c = search rules

pub qty-requires-in-PartialOrderExecution-clause-kind : goal.qty-requires-in-PartialOrderExecution-clause-kind
unfolding public_as counted is_among name_number range_of is_live required kind_of
qty-requires-in-PartialOrderExecution-clause-kind c = search rules

pub qty-requires-in-PartialOrderExecution-clause-range : goal.qty-requires-in-PartialOrderExecution-clause-range
unfolding public_as counted is_among name_number range_of is_live required kind_of
qty-requires-in-PartialOrderExecution-clause-range c = search rules

pub price-requires-in-PartialOrderExecution-2-clause-there : goal.price-requires-in-PartialOrderExecution-2-clause-there
unfolding public_as counted is_among name_number range_of is_live required kind_of
price-requires-in-PartialOrderExecution-2-clause-there c = search rules

pub price-requires-in-PartialOrderExecution-2-clause-kind : goal.price-requires-in-PartialOrderExecution-2-clause-kind
unfolding public_as counted is_among name_number range_of is_live required kind_of
price-requires-in-PartialOrderExecution-2-clause-kind c = search rules

pub price-requires-in-PartialOrderExecution-2-clause-range : goal.price-requires-in-PartialOrderExecution-2-clause-range
unfolding public_as counted is_among name_number range_of is_live required kind_of
price-requires-in-PartialOrderExecution-2-clause-range c = search rules

pub number-requires-in-FullOrderExecution-clause-there : goal.number-requires-in-FullOrderExecution-clause-there
unfolding public_as counted is_among name_number range_of is_live required kind_of
number-requires-in-FullOrderExecution-clause-there c = search rules

pub number-requires-in-FullOrderExecution-clause-kind : goal.number-requires-in-FullOrderExecution-clause-kind
unfolding public_as counted is_among name_number range_of is_live required kind_of
number-requires-in-FullOrderExecution-clause-kind c = search rules

pub side-requires-in-FullOrderExecution-clause-there : goal.side-requires-in-FullOrderExecution-clause-there
unfolding public_as counted is_among name_number range_of is_live required kind_of
side-requires-in-FullOrderExecution-clause-there c = search rules

pub side-requires-in-FullOrderExecution-clause-kind : goal.side-requires-in-FullOrderExecution-clause-kind
unfolding public_as counted is_among name_number range_of is_live required kind_of
side-requires-in-FullOrderExecution-clause-kind c = search rules

pub stamp-requires-in-FullOrderExecution-clause-there : goal.stamp-requires-in-FullOrderExecution-clause-there
unfolding public_as counted is_among name_number range_of is_live required kind_of
stamp-requires-in-FullOrderExecution-clause-there c = search rules

pub stamp-requires-in-FullOrderExecution-clause-kind : goal.stamp-requires-in-FullOrderExecution-clause-kind
unfolding public_as counted is_among name_number range_of is_live required kind_of
stamp-requires-in-FullOrderExecution-clause-kind c = search rules

pub stamp-requires-in-FullOrderExecution-clause-range : goal.stamp-requires-in-FullOrderExecution-clause-range
unfolding public_as counted is_among name_number range_of is_live required kind_of
stamp-requires-in-FullOrderExecution-clause-range c = search rules

pub price-requires-in-FullOrderExecution-clause-there : goal.price-requires-in-FullOrderExecution-clause-there
unfolding public_as counted is_among name_number range_of is_live required kind_of
price-requires-in-FullOrderExecution-clause-there c = search rules

pub price-requires-in-FullOrderExecution-clause-kind : goal.price-requires-in-FullOrderExecution-clause-kind
unfolding public_as counted is_among name_number range_of is_live required kind_of
price-requires-in-FullOrderExecution-clause-kind c = search rules

pub price-requires-in-FullOrderExecution-clause-range : goal.price-requires-in-FullOrderExecution-clause-range
unfolding public_as counted is_among name_number range_of is_live required kind_of
price-requires-in-FullOrderExecution-clause-range c = search rules

pub qty-requires-in-FullOrderExecution-clause-there : goal.qty-requires-in-FullOrderExecution-clause-there
unfolding public_as counted is_among name_number range_of is_live required kind_of
qty-requires-in-FullOrderExecution-clause-there c = search rules

pub qty-requires-in-FullOrderExecution-clause-kind : goal.qty-requires-in-FullOrderExecution-clause-kind
unfolding public_as counted is_among name_number range_of is_live required kind_of
qty-requires-in-FullOrderExecution-clause-kind c = search rules

pub qty-requires-in-FullOrderExecution-clause-range : goal.qty-requires-in-FullOrderExecution-clause-range
unfolding public_as counted is_among name_number range_of is_live required kind_of
qty-requires-in-FullOrderExecution-clause-range c = search rules

pub price-requires-in-FullOrderExecution-2-clause-there : goal.price-requires-in-FullOrderExecution-2-clause-there
unfolding public_as counted is_among name_number range_of is_live required kind_of
price-requires-in-FullOrderExecution-2-clause-there c = search rules

pub price-requires-in-FullOrderExecution-2-clause-kind : goal.price-requires-in-FullOrderExecution-2-clause-kind
unfolding public_as counted is_among name_number range_of is_live required kind_of
price-requires-in-FullOrderExecution-2-clause-kind c = search rules

pub price-requires-in-FullOrderExecution-2-clause-range : goal.price-requires-in-FullOrderExecution-2-clause-range
unfolding public_as counted is_among name_number range_of is_live required kind_of
price-requires-in-FullOrderExecution-2-clause-range c = search rules

pub number-requires-in-ExecutionSummary-clause-there : goal.number-requires-in-ExecutionSummary-clause-there
unfolding public_as counted is_among name_number range_of is_live required kind_of
number-requires-in-ExecutionSummary-clause-there c = search rules

pub number-requires-in-ExecutionSummary-clause-kind : goal.number-requires-in-ExecutionSummary-clause-kind
unfolding public_as counted is_among name_number range_of is_live required kind_of
number-requires-in-ExecutionSummary-clause-kind c = search rules

pub side-requires-in-ExecutionSummary-clause-there : goal.side-requires-in-ExecutionSummary-clause-there
unfolding public_as counted is_among name_number range_of is_live required kind_of
side-requires-in-ExecutionSummary-clause-there c = search rules

pub side-requires-in-ExecutionSummary-clause-kind : goal.side-requires-in-ExecutionSummary-clause-kind
unfolding public_as counted is_among name_number range_of is_live required kind_of
side-requires-in-ExecutionSummary-clause-kind c = search rules

pub stamp-requires-in-ExecutionSummary-clause-there : goal.stamp-requires-in-ExecutionSummary-clause-there
unfolding public_as counted is_among name_number range_of is_live required kind_of
stamp-requires-in-ExecutionSummary-clause-there c = search rules

pub stamp-requires-in-ExecutionSummary-clause-kind : goal.stamp-requires-in-ExecutionSummary-clause-kind
unfolding public_as counted is_among name_number range_of is_live required kind_of
stamp-requires-in-ExecutionSummary-clause-kind c = search rules

pub stamp-requires-in-ExecutionSummary-clause-range : goal.stamp-requires-in-ExecutionSummary-clause-range
unfolding public_as counted is_among name_number range_of is_live required kind_of
stamp-requires-in-ExecutionSummary-clause-range c = search rules

pub qty-requires-in-ExecutionSummary-clause-there : goal.qty-requires-in-ExecutionSummary-clause-there
unfolding public_as counted is_among name_number range_of is_live required kind_of
qty-requires-in-ExecutionSummary-clause-there c = search rules

pub qty-requires-in-ExecutionSummary-clause-kind : goal.qty-requires-in-ExecutionSummary-clause-kind
unfolding public_as counted is_among name_number range_of is_live required kind_of
qty-requires-in-ExecutionSummary-clause-kind c = search rules

pub qty-requires-in-ExecutionSummary-clause-range : goal.qty-requires-in-ExecutionSummary-clause-range
unfolding public_as counted is_among name_number range_of is_live required kind_of
qty-requires-in-ExecutionSummary-clause-range c = search rules

pub price-requires-in-ExecutionSummary-clause-there : goal.price-requires-in-ExecutionSummary-clause-there
unfolding public_as counted is_among name_number range_of is_live required kind_of
price-requires-in-ExecutionSummary-clause-there c = search rules

pub price-requires-in-ExecutionSummary-clause-kind : goal.price-requires-in-ExecutionSummary-clause-kind
unfolding public_as counted is_among name_number range_of is_live required kind_of
price-requires-in-ExecutionSummary-clause-kind c = search rules

pub price-requires-in-ExecutionSummary-clause-range : goal.price-requires-in-ExecutionSummary-clause-range
unfolding public_as counted is_among name_number range_of is_live required kind_of
price-requires-in-ExecutionSummary-clause-range c = search rules

pub returns-in-OrderAdd : goal.returns-in-OrderAdd
unfolding public_as counted is_among name_number range_of is_live required kind_of
returns-in-OrderAdd c = search rules

pub returns-in-OrderModify : goal.returns-in-OrderModify
unfolding public_as counted is_among name_number range_of is_live required kind_of
returns-in-OrderModify c = search rules

pub returns-in-OrderModifySamePriority : goal.returns-in-OrderModifySamePriority
unfolding public_as counted is_among name_number range_of is_live required kind_of
returns-in-OrderModifySamePriority c = search rules

pub returns-in-OrderDelete : goal.returns-in-OrderDelete
unfolding public_as counted is_among name_number range_of is_live required kind_of
returns-in-OrderDelete c = search rules

pub returns-in-OrderMassDelete : goal.returns-in-OrderMassDelete
unfolding public_as counted is_among name_number range_of is_live required kind_of
returns-in-OrderMassDelete c = search rules

pub returns-in-PartialOrderExecution : goal.returns-in-PartialOrderExecution
unfolding public_as counted is_among name_number range_of is_live required kind_of
returns-in-PartialOrderExecution c = search rules

pub returns-in-FullOrderExecution : goal.returns-in-FullOrderExecution
unfolding public_as counted is_among name_number range_of is_live required kind_of
returns-in-FullOrderExecution c = search rules

pub returns-in-ExecutionSummary : goal.returns-in-ExecutionSummary
unfolding public_as counted is_among name_number range_of is_live required kind_of
returns-in-ExecutionSummary c = search rules

pub returns-in_default : goal.returns-in_default
unfolding public_as counted is_among name_number range_of is_live required kind_of
returns-in_default c = search rules
