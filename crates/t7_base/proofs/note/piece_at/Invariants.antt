use Rattle.std.proofs.Common.{◌≡◌, ◌-◌, ◌≤◌, drop, sum, length, slice_get}
use Rattle.t7_base.specs.Memory.{pieces}
use Rattle.t7_base.proofs.note.piece_at.Given as goal

-- the rest has the pieces of the lengths that are left
abbrev pub invariant-loop-place : goal.invariant-loop-place
invariant-loop-place l = record {
  within : l.place ≤ l.at;
  covers : sum (drop l.place l.lengths) ≡ length l.rest;
  same : slice_get (pieces (drop l.place l.lengths) l.rest) (l.at - l.place) ≡ slice_get (pieces l.lengths l.bytes) l.at;
}
