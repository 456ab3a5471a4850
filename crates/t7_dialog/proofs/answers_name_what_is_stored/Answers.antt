use Rattle.t7_dialog.proofs.Knowing.{answers_name}
use Rattle.t7_dialog.proofs.answers_name_what_is_stored.Goals as goal

pub returns : goal.returns
returns c = answers_name
