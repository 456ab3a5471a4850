use Rattle.std.proofs.Common.{rules}
use Rattle.t7_eti.specs.Saying.{kept_fields}
use Rattle.t7_eti.proofs.write.executed.Goals as goal

pub returns-clause-fields : goal.returns-clause-fields
unfolding kept_fields
returns-clause-fields c = search rules
