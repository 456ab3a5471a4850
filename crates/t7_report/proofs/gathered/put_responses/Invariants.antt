use Rattle.std.proofs.Common.{◌≡◌, ◌≤◌, ◌+◌, drop}
use Rattle.t7_base.specs.Outside.{Grew}
use Rattle.t7_outcome.proofs.Printing.{DoneSo}
use Rattle.t7_report.specs.Gathered.{numbered_lines}
use Rattle.t7_report.proofs.gathered.put_responses.Given as goal

abbrev pub invariant-loop-what : goal.invariant-loop-what
invariant-loop-what g l = record {
  so : Grew (g.S.Sink.written l.initial.sink) (g.S.Sink.written l.sink) (DoneSo (numbered_lines l.number (drop l.what-index l.responses)) (numbered_lines 1 l.responses));
  number : l.number ≡ l.what-index + 1;
  count : g.S.Sink.faults l.initial.sink ≤ g.S.Sink.faults l.sink;
}
