use Rattle.std.proofs.Common.{◌≡◌, rules, sym}
use Rattle.t7_fields.specs.Messages.{value}
use Rattle.t7_eobi.proofs.RangeFacts.{counted_required, counts, says_some, value_is}
use Rattle.t7_eobi.proofs.records.number.Goals as goal

pub known_signed-requires-clause-there : goal.known_signed-requires-clause-there
known_signed-requires-clause-there c = counted_required c.args.m.now.role c.args.name (counts c.args.m.now.role c.args.name c.requires.there)

pub known_signed-requires-clause-known : goal.known_signed-requires-clause-known
known_signed-requires-clause-known c = says_some c.args.m.now c.args.name c.requires.sound (counts c.args.m.now.role c.args.name c.requires.there)

pub returns : goal.returns
returns c =
    let e : c.known_signed.result ≡ value c.args.m.now c.args.name = sym (value_is c.args.m.now c.args.name c.known_signed.result (sym c.known_signed.ensures)) in
    search (rules, e)
