use Rattle.std.proofs.Common.{refl, arith}
use Rattle.t7_layout.specs.Roles.{required}
use Rattle.t7_layout.proofs.tests.the_sample_table_is_read.Goals as goal

pub at-price-requires : goal.at-price-requires
unfolding required
at-price-requires g c = (6, omega arith, refl)
