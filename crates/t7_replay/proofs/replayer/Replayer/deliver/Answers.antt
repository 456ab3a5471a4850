use Rattle.std.proofs.Common.{rules}
use Rattle.t7_replay.proofs.Delivering.{deliver_done}
use Rattle.t7_replay.proofs.replayer.Replayer.deliver.Goals as goal

pub returns-clause-done : goal.returns-clause-done
returns-clause-done c =
    deliver_done (λ text. text.items) c.what_was_sent_is_genuine.ensures c.args.self.now _ c.self.inside.member c.give.new.member c.args.feed c.args.number _ c.give.result
    (search rules) (search rules) (search rules) c.give.ensures.given
