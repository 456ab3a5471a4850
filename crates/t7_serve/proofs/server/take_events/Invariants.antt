use Rattle.std.proofs.Common.{◌≡◌, ◌≤◌, length}
use Rattle.t7_base.specs.Outside.{Grew}
use Rattle.t7_feed.specs.Arrivals.{Terms}
use Rattle.t7_serve.specs.Clauses.{OfTakings}
use Rattle.t7_serve.specs.Servers.{IsReady}
use Rattle.t7_serve.specs.Venues.{new_venue}
use Rattle.t7_serve.proofs.Taking.{Goes}
use Rattle.t7_serve.proofs.server.take_events.Given as goal

abbrev pub invariant-loop-number : goal.invariant-loop-number
invariant-loop-number g l = record {
  goes : (terms : Terms) → l.initial.server ≡ new_venue terms
      → OfTakings (g.L.Link.events l.initial.link) (g.L.Link.events l.link) (g.C.Clock.given l.initial.clock) (g.C.Clock.given l.clock)
      (Goes terms l._number l.server (g.L.Link.sent l.initial.link) (g.L.Link.sent l.link) (g.D.Lines.cast l.initial.lines) (g.D.Lines.cast l.lines));
  some : Grew (g.L.Link.events l.initial.link) (g.L.Link.events l.link) (λ items. length items ≡ l._number);
  ready : IsReady l.server;
  events : l.server.events ≡ l._number;
  listens : g.L.Link.asked l.link ≡ g.L.Link.asked l.initial.link;
  binds : g.D.Lines.asked l.lines ≡ g.D.Lines.asked l.initial.lines;
  taken : g.D.Lines.taken l.lines ≡ g.D.Lines.taken l.initial.lines;
  link_count : g.L.Link.faults l.initial.link ≤ g.L.Link.faults l.link;
  lines_count : g.D.Lines.faults l.initial.lines ≤ g.D.Lines.faults l.lines;
}
