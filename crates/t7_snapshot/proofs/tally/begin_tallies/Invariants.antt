use Rattle.std.proofs.Common.{◌≡◌, map, take, vec_capacity}
use Rattle.t7_snapshot.specs.Tallies.{untold}
use Rattle.t7_snapshot.proofs.tally.begin_tallies.Given as goal

abbrev pub invariant-loop-security : goal.invariant-loop-security
invariant-loop-security l = record {
  tallies : l.tallies.items ≡ map untold (take l.security-index l.securities);
  room : vec_capacity l.tallies ≡ vec_capacity l.fn.tallies;
}
