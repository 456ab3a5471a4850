use Rattle.std.proofs.Common.{◌≤◌, length}
use Rattle.t7_replay.specs.Kits.{terms_of}
use Rattle.t7_replay.specs.Script.{lines_of}
use Rattle.t7_replay.specs.Steps.{played}
use Rattle.t7_replay.specs.World.{new_world}
use Rattle.t7_replay.proofs.Played.{Playing}
use Rattle.t7_replay.proofs.playing.play_lines.Given as goal

abbrev pub invariant-loop-rest : goal.invariant-loop-rest
invariant-loop-rest g l = record {
  playing : Playing (terms_of l.fn.replayer) l.replayer (lines_of l.rest) (played (terms_of l.fn.replayer) new_world (lines_of l.fn.script))
      (g.S.Sink.written l.initial.sink) (g.S.Sink.written l.sink);
  count : g.S.Sink.faults l.initial.sink ≤ g.S.Sink.faults l.sink;
}

abbrev pub decreases-loop-rest : goal.decreases-loop-rest
decreases-loop-rest g l = length l.rest
