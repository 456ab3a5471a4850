use Rattle.std.proofs.Common.{rules}
use Rattle.t7_fields.specs.Spelling.{known_unsigned, unsigned_at}
use Rattle.t7_fields.proofs.view.View.read_unsigned.Goals as goal

pub returns-then-is_null-clause-reads : goal.returns-then-is_null-clause-reads
unfolding known_unsigned unsigned_at
returns-then-is_null-clause-reads c = search rules

pub returns-else-is_null-clause-reads : goal.returns-else-is_null-clause-reads
unfolding known_unsigned unsigned_at
returns-else-is_null-clause-reads c = search rules

pub number_of-number-requires-clause-width : goal.number_of-number-requires-clause-width
number_of-number-requires-clause-width c = rw c.width.ensures.value (c.width.ensures.place.number (λ raw. cc (c.requires.kind, raw)))
