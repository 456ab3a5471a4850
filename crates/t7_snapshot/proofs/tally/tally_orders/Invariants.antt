use Rattle.std.proofs.Common.{◌≡◌, take, vec_capacity}
use Rattle.std.specs.List.{All}
use Rattle.t7_snapshot.specs.Tallies.{IsTallied, securities_of}
use Rattle.t7_snapshot.proofs.tally.tally_orders.Given as goal

abbrev pub invariant-loop-place : goal.invariant-loop-place
invariant-loop-place l = record {
  securities : securities_of l.tallies.items ≡ securities_of l.fn.tallies.items;
  tallied : All (IsTallied (take l.place l.orders)) l.tallies.items;
  room : vec_capacity l.tallies ≡ vec_capacity l.fn.tallies;
}
