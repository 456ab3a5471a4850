use Rattle.std.proofs.Common.{◌≡◌, ◌≤◌, length}
use Rattle.t7_base.specs.Outside.{Grew}
use Rattle.t7_serve.specs.Servers.{waiting_sent}
use Rattle.t7_serve.specs.Turns.{without_closed}
use Rattle.t7_serve.proofs.Going.{Sends}
use Rattle.t7_serve.proofs.server.Server.send_replies.Given as goal

abbrev pub invariant-loop : goal.invariant-loop
invariant-loop g l = record {
  venue : l.self ≡ record l.initial.self { day = record l.initial.self.day { waiting = l.self.day.waiting }; came = l.self.came };
  came : without_closed l.self.came l.self.day.waiting ≡ without_closed l.initial.self.came l.initial.self.day.waiting;
  sent : Grew (g.L.Link.sent l.initial.link) (g.L.Link.sent l.link) (Sends (waiting_sent l.initial.self) l.self);
  asked : g.L.Link.asked l.link ≡ g.L.Link.asked l.initial.link;
  events : g.L.Link.events l.link ≡ g.L.Link.events l.initial.link;
  count : g.L.Link.faults l.initial.link ≤ g.L.Link.faults l.link;
}

abbrev pub decreases-loop : goal.decreases-loop
decreases-loop g l = length l.self.day.waiting
