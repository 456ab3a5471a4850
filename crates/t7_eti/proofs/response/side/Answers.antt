use Rattle.std.proofs.Common.{rules}
use Rattle.t7_layout.specs.Roles.{kind_of}
use Rattle.t7_eti.proofs.response.side.Goals as goal

pub unsigned-requires-clause-kind : goal.unsigned-requires-clause-kind
unfolding kind_of
unsigned-requires-clause-kind c = search rules
