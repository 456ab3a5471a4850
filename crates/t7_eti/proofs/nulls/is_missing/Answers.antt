use Rattle.std.proofs.Common.{rules}
use Rattle.t7_eti.specs.Nulls.{is_missing, counts_as_null}
use Rattle.t7_layout.specs.Roles.{kind_of}
use Rattle.t7_eti.proofs.NullFacts.{never_counts}
use Rattle.t7_eti.proofs.nulls.is_missing.Goals as goal

pub unsigned-requires-clause-kind : goal.unsigned-requires-clause-kind
unfolding is_missing counts_as_null kind_of
unsigned-requires-clause-kind c = search (rules, never_counts)

pub unsigned-requires-in-ClOrdID-clause-kind : goal.unsigned-requires-in-ClOrdID-clause-kind
unfolding is_missing counts_as_null kind_of
unsigned-requires-in-ClOrdID-clause-kind c = search (rules, never_counts)

pub returns-in-Some : goal.returns-in-Some
unfolding is_missing counts_as_null kind_of
returns-in-Some c = search (rules, never_counts)

pub returns-in-None : goal.returns-in-None
unfolding is_missing counts_as_null kind_of
returns-in-None c = search (rules, never_counts)

pub returns-in-Some-unsigned : goal.returns-in-Some-unsigned
unfolding is_missing counts_as_null kind_of
returns-in-Some-unsigned c = search (rules, never_counts)

pub returns-in-None-unsigned : goal.returns-in-None-unsigned
unfolding is_missing counts_as_null kind_of
returns-in-None-unsigned c = search (rules, never_counts)

pub returns-in_default : goal.returns-in_default
unfolding is_missing counts_as_null kind_of
returns-in_default c = search (rules, never_counts)
