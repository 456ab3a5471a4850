use Rattle.std.proofs.Common.{◌<◌, ◌^◌, arith}
use Rattle.t7_layout.specs.Roles.{family_of}
use Rattle.t7_eti.proofs.NullFacts.{four_bytes, number_counts, number_width}
use Rattle.std.proofs.Common.{rules}
use Rattle.t7_layout.specs.Roles.{kind_of, width_in}
use Rattle.t7_eti.proofs.request.sequence_number.Goals as goal

pub returns-clause-small : goal.returns-clause-small
returns-clause-small c =
    let m = c.args.m.now in
    let n = c.unsigned.result in
    let other = number_counts m n c.unsigned.ensures.value c.requires.none c.requires.there in
    let fits : n < 2 ^ 32 = four_bytes n _ (number_width (family_of m.role)) c.unsigned.ensures.small in
    omega (arith, other, fits)

pub unsigned-requires-clause-kind : goal.unsigned-requires-clause-kind
unfolding kind_of width_in
unsigned-requires-clause-kind c = search (rules, number_counts)

pub overflow_cast-result : goal.overflow_cast-result
unfolding kind_of width_in
overflow_cast-result c = search (rules, number_counts)
