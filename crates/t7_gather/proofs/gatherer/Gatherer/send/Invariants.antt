use Rattle.std.proofs.Common.{◌≡◌, ◌≤◌, length}
use Rattle.t7_base.specs.Outside.{Grew}
use Rattle.t7_gather.proofs.Sending.{SoFar}
use Rattle.t7_gather.proofs.gatherer.Gatherer.send.Given as goal

abbrev pub invariant-loop-out : goal.invariant-loop-out
invariant-loop-out g l = record {
  sent : Grew (g.L.Link.sent l.initial.link) (g.L.Link.sent l.link) (SoFar l.initial.self.conn l.initial.self.client.queue l.self.client.queue);
  client : l.self.client ≡ record l.initial.self.client { queue = l.self.client.queue };
  conn : l.self.conn ≡ l.initial.self.conn;
  came : l.self.came ≡ l.initial.self.came;
  asked : g.L.Link.asked l.link ≡ g.L.Link.asked l.initial.link;
  events : g.L.Link.events l.link ≡ g.L.Link.events l.initial.link;
  count : g.L.Link.faults l.initial.link ≤ g.L.Link.faults l.link;
}

abbrev pub decreases-loop-out : goal.decreases-loop-out
decreases-loop-out g l = length l.self.client.queue
