use Rattle.std.proofs.Common.{rules}
use Rattle.t7_eti.proofs.NullFacts.{sought_required, none_unset}
use Rattle.t7_eti.proofs.nulls.first_null.Goals as goal

pub first_unset-requires : goal.first_unset-requires
first_unset-requires c = search (rules, sought_required, none_unset)

pub returns-clause-whole : goal.returns-clause-whole
returns-clause-whole c = search (rules, sought_required, none_unset)
