use Rattle.std.proofs.Common.{arith}
use Rattle.std.proofs.lemmas.Grind.{common_steps}
use Rattle.t7_fields.specs.Puts.{patch}
use Rattle.t7_fields.proofs.bytes.write_low.Goals as goal

pub returns : goal.returns
unfolding patch
returns c = grind (arith, common_steps)
