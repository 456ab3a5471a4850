use Rattle.std.proofs.Common.{rules}
use Rattle.t7_replay.proofs.Opening.{tick_done}
use Rattle.t7_replay.proofs.replayer.Replayer.tick.Goals as goal

pub returns-clause-done : goal.returns-clause-done
returns-clause-done c =
    tick_done (λ text. text.items) c.args.self.now _ c.enter.new.self c.args.moment c.enter.result c.enter.ensures.done (search rules)
