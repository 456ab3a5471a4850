use Rattle.std.proofs.Common.{◌≡◌, drop}
use Rattle.t7_fields.specs.Messages.{first_unset}
use Rattle.t7_eobi.specs.Ranges.{first_out}
use Rattle.t7_eobi.proofs.ranges.says_all.Given as goal

abbrev pub invariant-loop-name : goal.invariant-loop-name
invariant-loop-name l = record {
  unset : first_unset l.m (drop l.name-index l.names) ≡ first_unset l.m l.names;
  out : first_out l.m (drop l.name-index l.names) ≡ first_out l.m l.names;
}
