use Rattle.t7_exchange.proofs.SayFacts.{kept_said}
use Rattle.t7_exchange.proofs.wires.Wires.deliver_one.Goals as goal

pub send-requires-clause-sayable : goal.send-requires-clause-sayable
send-requires-clause-sayable c = kept_said 0 _ c.args.stored.now.what c.requires.sayable
