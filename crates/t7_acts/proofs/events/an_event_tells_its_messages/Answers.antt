use Rattle.t7_acts.proofs.Telling.{due_follows, first_follows, last_grows}
use Rattle.t7_acts.proofs.events.an_event_tells_its_messages.Goals as goal

pub returns : goal.returns
returns c = record {
  last = λ day event. last_grows day event (c.events_only_add.ensures day.setting day.state event);
  first = λ day event none. first_follows day event (c.events_only_add.ensures day.setting day.state event) none;
  due = λ day event none. due_follows day event (c.events_only_add.ensures day.setting day.state event) none;
}
