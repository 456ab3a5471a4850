use Rattle.t7_acts.specs.Added.{added_by}
use Rattle.t7_acts.proofs.Stepping.{all_put, beat_steps, day_begins, event_steps, sent_steps, snap_steps}
use Rattle.t7_acts.proofs.events.days_stay_in_step.Goals as goal

pub returns : goal.returns
returns c = record {
  begin = day_begins;
  event = λ terms acts day put event is.
      event_steps terms acts day put event (c.events_only_add.ensures day.setting day.state event) is
      (c.more_commands_send_more.ensures.live terms acts (added_by day.setting day.state event))
      (c.more_commands_send_more.ensures.commands acts (added_by day.setting day.state event));
  sent = λ terms acts old new put datagram is ships. sent_steps terms acts c.greedy_cuts_are_one.ensures.all old new put datagram is ships;
  beat = λ terms acts day put is none.
      beat_steps terms acts day put is none (c.a_heartbeat_sends_one_more.ensures.live terms acts) (c.a_heartbeat_sends_one_more.ensures.commands acts);
  snap = λ terms acts day put is.
      snap_steps terms acts day put is (c.a_snapshot_sends_one_more.ensures.live terms acts) (c.a_snapshot_sends_one_more.ensures.commands acts);
  all = all_put;
}
