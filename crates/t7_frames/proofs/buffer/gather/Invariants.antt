use Rattle.std.proofs.Common.{◌≡◌, ◌+◌, ◌-◌, ◌≤◌, ◌++◌, max, length, vec_len, vec_capacity}
use Rattle.t7_frames.proofs.buffer.gather.Given as goal

abbrev pub invariant-loop-ring : goal.invariant-loop-ring
invariant-loop-ring l = record {
  bytes : l.gathered.items ++ l.ring.items ≡ l.fn.gathered.items ++ l.fn.ring.items;
  sum : vec_len l.gathered + length l.ring.items ≡ vec_len l.fn.gathered + length l.fn.ring.items;
  few : vec_len l.gathered ≤ max (vec_len l.fn.gathered) l.count;
  more : vec_len l.fn.gathered ≤ vec_len l.gathered;
  room : vec_capacity l.gathered ≡ vec_capacity l.fn.gathered;
  capacity : l.ring.capacity ≡ l.fn.ring.capacity;
}

abbrev pub decreases-loop-ring : goal.decreases-loop-ring
decreases-loop-ring l = l.count - vec_len l.gathered
