use Rattle.std.proofs.Common.{arith}
use Rattle.std.proofs.lemmas.Grind.{common_steps}
use Rattle.t7_fields.specs.Spelling.{complement, number_bytes}
use Rattle.t7_fields.specs.Puts.{patch}
use Rattle.t7_fields.proofs.bytes.write_unsigned.Goals as goal

pub returns : goal.returns
unfolding patch number_bytes complement
returns c = grind (arith, common_steps)
