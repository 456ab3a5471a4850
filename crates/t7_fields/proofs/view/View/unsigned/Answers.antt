use Rattle.t7_fields.proofs.SpellFacts.{unsigned_spelled}
use Rattle.t7_fields.proofs.view.View.unsigned.Goals as goal

pub returns-clause-spelled : goal.returns-clause-spelled
returns-clause-spelled c r k s e =
    rw c.read_unsigned.ensures.reads (unsigned_spelled c.args.self.now.layout.fields r c.args.self.now.bytes k c.args.f c.read_unsigned.ensures.some c.requires.kind s.fields e)
