use Rattle.t7_replay.proofs.Sending.{snap_done}
use Rattle.t7_replay.proofs.replayer.Replayer.snap.Goals as goal

pub returns-clause-done : goal.returns-clause-done
returns-clause-done c =
    let laws = c.a_snapshot_sends_one_more.ensures in
    snap_done (λ text. text.items)
    (record {
      live = laws.live;
      snap = laws.snap;
      commands = laws.commands;
      left = laws.left;
      beats = laws.beats;
      snaps = laws.snaps;
      genuine = c.genuine_stays.ensures;
    })
    c.args.self.now c.keep_snap.new.self c.keep_snap.result c.requires c.keep_snap.ensures.kept
