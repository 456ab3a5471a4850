use Rattle.std.specs.List.{All}
use Rattle.t7_packets.specs.Packing.{IsWritable}
use Rattle.t7_bench.proofs.pack.adds_of.Given as goal

abbrev pub invariant-loop-row : goal.invariant-loop-row
invariant-loop-row l = All IsWritable l.adds.items
