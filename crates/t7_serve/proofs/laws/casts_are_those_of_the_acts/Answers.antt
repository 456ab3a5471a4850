use Rattle.std.proofs.Common.{sym}
use Rattle.t7_base.specs.declared.ids.Channel.TheVariants.{Snap}
use Rattle.t7_serve.specs.Served.{done_by}
use Rattle.t7_serve.proofs.Genuine.{front_is_genuine}
use Rattle.t7_serve.proofs.Keeping.{Grows, casts_all, keeps_all}
use Rattle.t7_serve.proofs.laws.casts_are_those_of_the_acts.Goals as goal

pub returns : goal.returns
returns c =
    let laws : Grows = record {
      begin = c.days_stay_in_step.ensures.begin;
      event = c.days_stay_in_step.ensures.event;
      beat = c.days_stay_in_step.ensures.beat;
      snap = c.days_stay_in_step.ensures.snap;
      all = c.days_stay_in_step.ensures.all;
      none_left = c.nothing_was_sent.ensures.left;
      none_sent = λ terms. c.nothing_was_sent.ensures.sent terms Snap;
      accept_snap = c.more_commands_send_more.ensures.snap;
      accept_left = c.more_commands_send_more.ensures.left;
      accept_beats = c.more_commands_send_more.ensures.beats;
      accept_snaps = c.more_commands_send_more.ensures.snaps;
      beat_snap = c.a_heartbeat_sends_one_more.ensures.snap;
      beat_left = c.a_heartbeat_sends_one_more.ensures.left;
      beat_beats = c.a_heartbeat_sends_one_more.ensures.beats;
      beat_snaps = c.a_heartbeat_sends_one_more.ensures.snaps;
      snap_snap = c.a_snapshot_sends_one_more.ensures.snap;
      snap_left = c.a_snapshot_sends_one_more.ensures.left;
      snap_beats = c.a_snapshot_sends_one_more.ensures.beats;
      snap_snaps = c.a_snapshot_sends_one_more.ensures.snaps;
      some = c.a_snapshot_sends_one_more.ensures.some;
    }
    in record {
      cast = λ terms takings feed. casts_all terms laws takings feed;
      genuine = λ terms takings cast front. front_is_genuine terms (done_by terms takings).acts (done_by terms takings).cast cast
          (casts_all terms laws takings) front;
      commands = λ terms takings. sym (keeps_all terms laws takings).live.accepted;
      beats = λ terms takings. sym (keeps_all terms laws takings).beats;
      snaps = λ terms takings. sym (keeps_all terms laws takings).snaps;
      setting = λ terms takings. (keeps_all terms laws takings).live.setting;
    }
