use Rattle.std.proofs.Common.{sym}
use Rattle.t7_fields.specs.Spelling.{unsigned_at}
use Rattle.t7_fields.proofs.ViewFacts.{unsigned_known}
use Rattle.t7_fields.proofs.view.View.known_unsigned.Goals as goal

pub returns-clause-reads : goal.returns-clause-reads
unfolding unsigned_at
returns-clause-reads c =
    rw (c.number_of.ensures.value, c.width.ensures.value, c.bytes_of.ensures.bytes) (sym (unsigned_known c.args.f _ c.requires.known))

pub number_of-requires-clause-width : goal.number_of-requires-clause-width
number_of-requires-clause-width c = rw c.width.ensures.value (c.width.ensures.place.number (λ raw. cc (c.requires.kind, raw)))
