use Rattle.std.proofs.Common.{rules}
use Rattle.t7_eobi.specs.Faults.{fields_fault}
use Rattle.t7_eobi.proofs.RangeFacts.{counted_required}
use Rattle.t7_eobi.proofs.faults.fields_fault.Goals as goal

pub says_all-requires : goal.says_all-requires
unfolding fields_fault
says_all-requires c = search (rules, counted_required)

pub returns-then-says_all : goal.returns-then-says_all
unfolding fields_fault
returns-then-says_all c = search (rules, counted_required)

pub first_unset-requires : goal.first_unset-requires
unfolding fields_fault
first_unset-requires c = search (rules, counted_required)

pub returns-then-is_some : goal.returns-then-is_some
unfolding fields_fault
returns-then-is_some c = search (rules, counted_required)

pub returns : goal.returns
unfolding fields_fault
returns c = search (rules, counted_required)
