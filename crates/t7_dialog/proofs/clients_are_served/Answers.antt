use Rattle.t7_dialog.proofs.Happening.{other_happens, own_happens}
use Rattle.t7_dialog.proofs.clients_are_served.Goals as goal

pub returns : goal.returns
returns c = record {
  own = λ setting conn session piece unsent moment state table. own_happens setting conn session c.a_message_says_what_is_written.ensures table piece unsent moment state;
  others = λ setting conn session unsent state event table. other_happens setting conn session unsent state event;
}
