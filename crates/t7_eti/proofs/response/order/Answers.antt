use Rattle.std.proofs.Common.{rules}
use Rattle.t7_layout.specs.Roles.{kind_of}
use Rattle.t7_eti.proofs.response.order.Goals as goal

pub double-requires-clause-kind : goal.double-requires-clause-kind
unfolding kind_of
double-requires-clause-kind c = search rules
