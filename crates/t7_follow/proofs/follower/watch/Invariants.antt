use Rattle.std.proofs.Common.{◌≡◌, ◌≤◌, [], reverse}
use Rattle.t7_base.specs.Outside.{Grew}
use Rattle.t7_feed.specs.Arrivals.{AreTerms, Terms}
use Rattle.t7_follow.specs.Followers.{Stands}
use Rattle.t7_follow.proofs.Watching.{Goes}
use Rattle.t7_follow.proofs.follower.watch.Given as goal

abbrev pub invariant-loop-number : goal.invariant-loop-number
invariant-loop-number g l = record {
  goes : (terms : Terms) → AreTerms terms → Stands terms [] l.initial.follower
      → Grew (g.D.Lines.taken l.initial.lines) (g.D.Lines.taken l.lines)
      (λ taken. Goes terms l._number l.follower (g.S.Sink.written l.initial.sink) (g.S.Sink.written l.sink) (reverse taken));
  few : l.follower.datagrams ≤ l._number;
  asked : g.D.Lines.asked l.lines ≡ g.D.Lines.asked l.initial.lines;
  cast : g.D.Lines.cast l.lines ≡ g.D.Lines.cast l.initial.lines;
  lines_count : g.D.Lines.faults l.initial.lines ≤ g.D.Lines.faults l.lines;
  sink_count : g.S.Sink.faults l.initial.sink ≤ g.S.Sink.faults l.sink;
}
