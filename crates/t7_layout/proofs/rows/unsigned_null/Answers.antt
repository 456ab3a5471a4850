use Rattle.std.proofs.Common.{rules}
use Rattle.t7_layout.specs.Rows.{unsigned_null}
use Rattle.t7_layout.proofs.rows.unsigned_null.Goals as goal

pub returns-in_err-number : goal.returns-in_err-number
unfolding unsigned_null
returns-in_err-number c = search rules

pub returns : goal.returns
unfolding unsigned_null
returns c = search rules
