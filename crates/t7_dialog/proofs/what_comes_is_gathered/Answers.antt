use Rattle.t7_dialog.proofs.Coming.{what_comes}
use Rattle.t7_dialog.proofs.what_comes_is_gathered.Goals as goal

pub returns : goal.returns
returns c = what_comes c.fronts_are_gathered.ensures
