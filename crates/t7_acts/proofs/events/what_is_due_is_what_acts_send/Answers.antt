use Rattle.std.proofs.Common.{◌∙◌}
use Rattle.t7_acts.proofs.Stepping.{due_leads}
use Rattle.t7_acts.proofs.events.what_is_due_is_what_acts_send.Goals as goal

pub returns : goal.returns
returns c = λ terms acts day put event is none. c.an_event_tells_its_messages.ensures.due day event none ∙ due_leads terms acts day put event is none
