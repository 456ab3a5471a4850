use Rattle.t7_fields.proofs.SpellFacts.{signed_spelled}
use Rattle.t7_fields.proofs.view.View.signed.Goals as goal

pub returns-clause-spelled : goal.returns-clause-spelled
returns-clause-spelled c r k s e =
    rw c.read_signed.ensures.reads (signed_spelled c.args.self.now.layout.fields r c.args.self.now.bytes k c.args.f c.read_signed.ensures.some c.requires.kind s.fields e)
