use Rattle.t7_fields.proofs.SpellFacts.{raw_spelled}
use Rattle.t7_fields.proofs.view.View.raw.Goals as goal

pub returns-clause-spelled : goal.returns-clause-spelled
returns-clause-spelled c r k kind s e =
    rw c.bytes_of.ensures.bytes (raw_spelled c.args.self.now.layout.fields r c.args.self.now.bytes k c.args.f kind s.fields e)
