use Rattle.std.proofs.Common.{rules}
use Rattle.t7_eti.proofs.NullFacts.{sought_required}
use Rattle.t7_eti.proofs.ranges.first_out.Goals as goal

pub first_out_of-requires : goal.first_out_of-requires
first_out_of-requires c = search (rules, sought_required)
