use Rattle.std.proofs.Common.{◌≡◌, drop}
use Rattle.t7_eti.specs.Ranges.{first_out}
use Rattle.t7_eti.proofs.ranges.first_out_of.Given as goal

abbrev pub invariant-loop-name : goal.invariant-loop-name
invariant-loop-name l = first_out l.m (drop l.name-index l.names) ≡ first_out l.m l.names
