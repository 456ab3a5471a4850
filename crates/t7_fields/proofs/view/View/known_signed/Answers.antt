use Rattle.std.proofs.Common.{rules}
use Rattle.t7_fields.specs.Spelling.{signed_at}
use Rattle.t7_fields.proofs.ViewFacts.{signed_known}
use Rattle.t7_fields.proofs.view.View.known_signed.Goals as goal

pub returns : goal.returns
unfolding signed_at
returns c =
    let known = signed_known c.args.f (signed_at c.args.f c.args.self.now.bytes) c.requires.known in
    search rules

pub signed_of-requires-clause-width : goal.signed_of-requires-clause-width
signed_of-requires-clause-width c = rw c.width.ensures.value (c.width.ensures.place.number (λ raw. cc (c.requires.kind, raw)))
