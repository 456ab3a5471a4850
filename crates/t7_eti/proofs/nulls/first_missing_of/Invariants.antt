use Rattle.std.proofs.Common.{◌≡◌, drop}
use Rattle.t7_eti.specs.Nulls.{first_missing}
use Rattle.t7_eti.proofs.nulls.first_missing_of.Given as goal

abbrev pub invariant-loop-name : goal.invariant-loop-name
invariant-loop-name l = first_missing l.m (drop l.name-index l.names) ≡ first_missing l.m l.names
