use Rattle.std.proofs.Common.{pos, sym}
use Rattle.t7_eobi.proofs.RangeFacts.{counted_required, counts, says_some, value_is}
use Rattle.t7_eobi.proofs.records.natural.Goals as goal

pub known_unsigned-requires-clause-there : goal.known_unsigned-requires-clause-there
known_unsigned-requires-clause-there c = counted_required c.args.m.now.role c.args.name (counts c.args.m.now.role c.args.name c.requires.there)

pub known_unsigned-requires-clause-known : goal.known_unsigned-requires-clause-known
known_unsigned-requires-clause-known c = says_some c.args.m.now c.args.name c.requires.sound (counts c.args.m.now.role c.args.name c.requires.there)

pub returns-clause-value : goal.returns-clause-value
returns-clause-value c = sym (value_is c.args.m.now c.args.name (pos c.known_unsigned.result) (sym c.known_unsigned.ensures.said))
