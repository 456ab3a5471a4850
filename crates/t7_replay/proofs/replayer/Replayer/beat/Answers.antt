use Rattle.t7_replay.proofs.Sending.{beat_done}
use Rattle.t7_replay.proofs.replayer.Replayer.beat.Goals as goal

pub returns-clause-done : goal.returns-clause-done
returns-clause-done c =
    let laws = c.a_heartbeat_sends_one_more.ensures in
    beat_done (λ text. text.items)
    (record {
      live = laws.live;
      snap = laws.snap;
      commands = laws.commands;
      left = laws.left;
      beats = laws.beats;
      snaps = laws.snaps;
      genuine = c.genuine_stays.ensures;
    })
    c.args.self.now c.keep_beat.new.self c.keep_beat.result c.requires c.keep_beat.ensures.kit c.keep_beat.ensures.text
