use Rattle.t7_dialog.proofs.Queueing.{clients_ask}
use Rattle.t7_dialog.proofs.clients_ask_for_responses.Goals as goal

pub returns : goal.returns
returns c = clients_ask
