use Rattle.std.proofs.Common.{◌≡◌, ◌+◌, ◌++◌, drop}
use Rattle.t7_outcome.specs.Outcome.{text_of}
use Rattle.t7_report.specs.Gathered.{numbered_lines}
use Rattle.t7_report.proofs.text.push_responses.Given as goal

abbrev pub invariant-loop-what : goal.invariant-loop-what
invariant-loop-what l = record {
  lines : l.text.items ++ text_of (numbered_lines l.number (drop l.what-index l.responses)) ≡ l.initial.text.items ++ text_of (numbered_lines 1 l.responses);
  number : l.number ≡ l.what-index + 1;
}
