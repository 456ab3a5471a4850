use Rattle.std.proofs.Common.{◌≤◌, take}
use Rattle.t7_packets.proofs.PackFacts.{IsBegun}
use Rattle.t7_packets.proofs.packing.pack.Given as goal

abbrev pub invariant-loop-used : goal.invariant-loop-used
invariant-loop-used l = record {
  fits : l.len ≤ l.limit;
  begun : IsBegun l.table l.segment l.number l.first (take l.used l.messages) l.len l.fn.out l.out;
}
