use Rattle.std.proofs.Common.{◌≡◌, ◌+◌, ◌≤◌, length}
use Rattle.t7_base.specs.Outside.{Grew}
use Rattle.t7_base.specs.declared.ids.Feed.TheVariants.{LiveA, LiveB}
use Rattle.t7_serve.specs.Turns.{due_bytes, on_both}
use Rattle.t7_serve.proofs.Going.{Casts}
use Rattle.t7_serve.proofs.server.Server.cast_live.Given as goal

abbrev pub invariant-loop : goal.invariant-loop
invariant-loop g l = record {
  venue : l.self ≡ record l.initial.self { day = record l.initial.self.day { untold = l.self.day.untold; live = l.self.day.live } };
  count : l.self.day.live + length (due_bytes l.self.day) ≡ l.initial.self.day.live + length (due_bytes l.initial.self.day);
  cast : Grew (g.D.Lines.cast l.initial.lines) (g.D.Lines.cast l.lines) (Casts (on_both LiveA LiveB (due_bytes l.initial.self.day)) l.self);
  asked : g.D.Lines.asked l.lines ≡ g.D.Lines.asked l.initial.lines;
  taken : g.D.Lines.taken l.lines ≡ g.D.Lines.taken l.initial.lines;
  faults : g.D.Lines.faults l.initial.lines ≤ g.D.Lines.faults l.lines;
}

abbrev pub decreases-loop : goal.decreases-loop
decreases-loop g l = length (due_bytes l.self.day)
