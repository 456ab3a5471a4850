use Rattle.std.proofs.Common.{rules}
use Rattle.t7_eti.proofs.NullFacts.{sought_required, none_missing}
use Rattle.t7_eti.proofs.nulls.first_missing.Goals as goal

pub first_missing_of-requires : goal.first_missing_of-requires
first_missing_of-requires c = search (rules, sought_required, none_missing)

pub returns-clause-whole : goal.returns-clause-whole
returns-clause-whole c = search (rules, sought_required, none_missing)
