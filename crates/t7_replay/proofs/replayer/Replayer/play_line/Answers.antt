use Rattle.std.proofs.Common.{rules}
use Rattle.t7_replay.proofs.Reading.{next_done, next_refused}
use Rattle.t7_replay.proofs.replayer.Replayer.play_line.Goals as goal

pub returns-clause-done : goal.returns-clause-done
returns-clause-done c =
    next_done (λ text. text.items) c.args.self.now _ c.do_line.new.self c.args.line.now c.do_line.result c.do_line.ensures.done (search rules) (search rules)

pub returns-clause-stopped : goal.returns-clause-stopped
returns-clause-stopped c =
    next_refused c.args.self.now _ c.args.line.now c.do_line.result c.do_line.ensures.stopped (search rules) (search rules)
