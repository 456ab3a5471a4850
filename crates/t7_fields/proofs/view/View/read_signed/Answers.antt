use Rattle.std.proofs.Common.{rules}
use Rattle.t7_fields.specs.Spelling.{known_signed, signed_at}
use Rattle.t7_fields.proofs.view.View.read_signed.Goals as goal

pub returns-then-is_signed_null-clause-reads : goal.returns-then-is_signed_null-clause-reads
unfolding known_signed signed_at
returns-then-is_signed_null-clause-reads c = search rules

pub returns-else-is_signed_null-clause-reads : goal.returns-else-is_signed_null-clause-reads
unfolding known_signed signed_at
returns-else-is_signed_null-clause-reads c = search rules

pub signed_of-value-requires-clause-width : goal.signed_of-value-requires-clause-width
signed_of-value-requires-clause-width c = rw c.width.ensures.value (c.width.ensures.place.number (λ raw. cc (c.requires.kind, raw)))
