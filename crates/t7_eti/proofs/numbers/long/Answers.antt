use Rattle.std.proofs.Common.{rules}
use Rattle.t7_eti.proofs.NullFacts.{among_required, value_known}
use Rattle.t7_eti.proofs.numbers.long.Goals as goal

pub long-requires-clause-there : goal.long-requires-clause-there
long-requires-clause-there c = search (rules, among_required, value_known)

pub returns : goal.returns
returns c = search (rules, among_required, value_known)
