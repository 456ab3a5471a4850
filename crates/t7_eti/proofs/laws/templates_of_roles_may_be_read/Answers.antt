use Rattle.t7_eti.proofs.OwnFacts.{role_is_own}
use Rattle.t7_eti.proofs.laws.templates_of_roles_may_be_read.Goals as goal

pub returns : goal.returns
returns c = role_is_own
