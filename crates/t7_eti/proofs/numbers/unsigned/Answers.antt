use Rattle.std.proofs.Common.{◌∙◌, sym, ap, pos}
use Rattle.std.specs.Prelude.{option_map}
use Rattle.t7_eti.proofs.NullFacts.{never_none, value_is}
use Rattle.std.proofs.Common.{rules}
use Rattle.t7_eti.proofs.NullFacts.{among_required}
use Rattle.t7_eti.proofs.numbers.unsigned.Goals as goal

pub unreachable-requires : goal.unreachable-requires
unreachable-requires c = never_none c.args.m.now c.args.name c.requires.whole c.requires.there (sym c.unsigned.ensures.said ∙ ap (option_map pos) c.in-None.is)

pub returns-clause-value : goal.returns-clause-value
returns-clause-value c = sym (value_is c.args.m.now c.args.name (pos c.in-Some.number) (sym c.unsigned.ensures.said ∙ ap (option_map pos) c.in-Some.is))

pub unsigned-requires-clause-there : goal.unsigned-requires-clause-there
unsigned-requires-clause-there c = search (rules, among_required)
