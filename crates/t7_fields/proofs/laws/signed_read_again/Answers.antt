use Rattle.std.proofs.Common.{◌∙◌, ap}
use Rattle.byteorder.specs.Endian.{twos_complement}
use Rattle.t7_layout.specs.declared.words.Kind.TheVariants.{Signed}
use Rattle.t7_fields.specs.Spelling.{complement}
use Rattle.t7_layout.proofs.BytesFacts.{complement_fits, number_again, signed_again}
use Rattle.t7_fields.proofs.laws.signed_read_again.Goals as goal

pub returns : goal.returns
returns c width z low held = ap (twos_complement width) (number_again width (complement width z) (complement_fits Signed width z low held)) ∙ signed_again width z low held
