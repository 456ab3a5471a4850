use Rattle.std.proofs.Common.{◌≡◌, drop}
use Rattle.t7_mbook.specs.Misfits.{is_listed}
use Rattle.t7_linear.proofs.fitting.is_listed.Given as goal

abbrev pub invariant-loop-listed : goal.invariant-loop-listed
invariant-loop-listed l = is_listed (drop l.listed-index l.securities) l.security ≡ is_listed l.securities l.security
