use Rattle.std.proofs.Common.{◌≡◌, ◌++◌, length}
use Rattle.std.specs.List.{AllByRecursion, concat}
use Rattle.t7_frames.specs.Frames.{IsFrame}
use Rattle.t7_frames.specs.Lists.{lists}
use Rattle.t7_frames.proofs.tests.drain.Given as goal

abbrev pub invariant-loop-frame : goal.invariant-loop-frame
invariant-loop-frame l = record {
  bytes : concat (lists l.frames) ++ l.buf ≡ concat (lists l.fn.frames) ++ l.fn.buf;
  each : AllByRecursion IsFrame (lists l.fn.frames) → AllByRecursion IsFrame (lists l.frames);
}

abbrev pub decreases-loop-frame : goal.decreases-loop-frame
decreases-loop-frame l = length l.buf
