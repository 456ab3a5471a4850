use Rattle.std.proofs.Common.{arith}
use Rattle.std.proofs.lemmas.Grind.{common_steps}
use Rattle.t7_fields.specs.Puts.{patch}
use Rattle.t7_fields.proofs.bytes.write_bytes.Goals as goal

pub returns-clause-bytes : goal.returns-clause-bytes
unfolding patch
returns-clause-bytes c = grind (arith, common_steps)
