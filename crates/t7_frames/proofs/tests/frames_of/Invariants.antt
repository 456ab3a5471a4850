use Rattle.std.proofs.Common.{◌≡◌, ◌++◌, take}
use Rattle.std.specs.List.{AllByRecursion, concat, flat_map}
use Rattle.t7_frames.specs.Frames.{IsFrame, BeginsWithNoFrame}
use Rattle.t7_frames.specs.Lists.{lists}
use Rattle.t7_frames.proofs.tests.frames_of.Given as goal

abbrev pub invariant-loop-piece : goal.invariant-loop-piece
invariant-loop-piece l = record {
  bytes : concat (lists l.frames) ++ l.buf ≡ flat_map (λ piece. piece.items) (take l.piece-index l.pieces);
  each : AllByRecursion IsFrame (lists l.frames);
  ends : BeginsWithNoFrame l.buf;
}
