use Rattle.std.proofs.Common.{rules, ◌≡◌, ◌∙◌, sym}
use Rattle.t7_fields.specs.Messages.{value}
use Rattle.t7_eti.proofs.NullFacts.{never_none, value_is}
use Rattle.t7_eti.proofs.NullFacts.{among_required}
use Rattle.t7_eti.proofs.numbers.signed.Goals as goal

pub unreachable-requires : goal.unreachable-requires
unreachable-requires c = never_none c.args.m.now c.args.name c.requires.whole c.requires.there (sym c.signed.ensures ∙ c.in-None.is)

pub returns : goal.returns
returns c =
    let e : c.in-Some.number ≡ value c.args.m.now c.args.name = sym (value_is c.args.m.now c.args.name c.in-Some.number (sym c.signed.ensures ∙ c.in-Some.is)) in
    search (rules, e)

pub signed-requires-clause-there : goal.signed-requires-clause-there
signed-requires-clause-there c = search (rules, among_required)
