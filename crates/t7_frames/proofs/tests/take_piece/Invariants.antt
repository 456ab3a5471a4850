use Rattle.std.proofs.Common.{◌≡◌, ◌++◌, ◌-◌, ◌≤◌, length, take}
use Rattle.std.specs.List.{AllByRecursion, concat}
use Rattle.t7_frames.specs.Frames.{IsFrame, BeginsWithNoFrame}
use Rattle.t7_frames.specs.Lists.{lists}
use Rattle.t7_frames.proofs.tests.take_piece.Given as goal

abbrev pub invariant-loop-at : goal.invariant-loop-at
invariant-loop-at l = record {
  within : l.at ≤ length l.piece;
  bytes : concat (lists l.frames) ++ l.buf ≡ (concat (lists l.fn.frames) ++ l.fn.buf) ++ take l.at l.piece;
  each : AllByRecursion IsFrame (lists l.fn.frames) → AllByRecursion IsFrame (lists l.frames);
  ends : BeginsWithNoFrame l.buf;
}

abbrev pub decreases-loop-at : goal.decreases-loop-at
decreases-loop-at l = length l.piece - l.at
