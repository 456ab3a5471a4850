use Rattle.std.proofs.Common.{rules}
use Rattle.t7_replay.proofs.Delivering.{forge_done}
use Rattle.t7_replay.proofs.replayer.Replayer.forge.Goals as goal

pub returns-clause-done : goal.returns-clause-done
returns-clause-done c =
    forge_done (λ text. text.items) c.args.self.now _ c.self.inside.member c.give.new.member c.args.feed c.args.bytes.now c.give.result (search rules) (search rules) c.give.ensures.given
