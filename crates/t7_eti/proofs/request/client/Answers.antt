use Rattle.std.proofs.Common.{arith}
use Rattle.t7_eti.proofs.NullFacts.{client_counts}
use Rattle.std.proofs.Common.{rules}
use Rattle.t7_layout.specs.Roles.{kind_of}
use Rattle.t7_eti.proofs.request.client.Goals as goal

pub returns-clause-small : goal.returns-clause-small
returns-clause-small c =
    let other = client_counts c.args.m.now c.unsigned.result c.unsigned.ensures.value c.requires.none c.requires.there in
    omega (arith, other)

pub unsigned-requires-clause-kind : goal.unsigned-requires-clause-kind
unfolding kind_of
unsigned-requires-clause-kind c = search (rules, client_counts)
