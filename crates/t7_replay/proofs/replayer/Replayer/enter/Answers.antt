use Rattle.std.proofs.Common.{rules}
use Rattle.t7_replay.proofs.Entering.{entered_all}
use Rattle.t7_replay.proofs.replayer.Replayer.enter.Goals as goal

pub returns-clause-done : goal.returns-clause-done
returns-clause-done c =
    entered_all (λ text. text.items)
    (record {
      step = c.days_stay_in_step.ensures.event;
      snap = c.more_commands_send_more.ensures.snap;
      left = c.more_commands_send_more.ensures.left;
      beats = c.more_commands_send_more.ensures.beats;
      snaps = c.more_commands_send_more.ensures.snaps;
      genuine = c.genuine_stays.ensures;
    })
    c.args.self.now c.hand_out.new.self c.hand_out.result c.hand_out.ensures.kit c.hand_out.ensures.text c.hand_out.ensures.said (search rules)
