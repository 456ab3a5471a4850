use Rattle.t7_eti.proofs.OwnFacts.{listed_is_own}
use Rattle.t7_eti.proofs.laws.templates_of_a_table_may_be_read.Goals as goal

pub returns : goal.returns
returns c = listed_is_own
