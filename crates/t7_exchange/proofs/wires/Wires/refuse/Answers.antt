use Rattle.std.proofs.Common.{ap, ◌∙◌}
use Rattle.t7_eti.specs.declared.response.Response.TheVariants as response
use Rattle.t7_entry.specs.ByNumber.{remove}
use Rattle.t7_entry.specs.Treatment.{close, refuse, send}
use Rattle.t7_exchange.proofs.SayFacts.{reject_said}
use Rattle.t7_exchange.proofs.WireFacts.{acts_then}
use Rattle.t7_exchange.proofs.wires.Wires.refuse.Goals as goal

pub returns-clause-acts : goal.returns-clause-acts
unfolding refuse
returns-clause-acts c = λ accepted.
    acts_then accepted c.args.self.now c.send.new.self c.close.new.self (send c.args.moment c.args.conn (response.Reject c.args.seq c.args.reason)) (close c.args.conn) (c.send.ensures.acts accepted) (c.close.ensures.acts accepted)

pub returns-clause-inputs : goal.returns-clause-inputs
returns-clause-inputs c = c.close.ensures.inputs ∙ ap (λ m. remove m c.args.conn) c.send.ensures.inputs

pub send-requires-clause-sayable : goal.send-requires-clause-sayable
send-requires-clause-sayable c = reject_said c.args.seq c.args.reason c.requires.sayable
