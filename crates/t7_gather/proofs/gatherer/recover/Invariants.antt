use Rattle.std.proofs.Common.{◌≡◌, ◌≤◌, reverse}
use Rattle.t7_gather.specs.Clauses.{SentOn}
use Rattle.t7_gather.specs.Steps.{IsGoing, OnLink}
use Rattle.t7_gather.specs.Turns.{turns}
use Rattle.t7_gather.proofs.Recovering.{Goes}
use Rattle.t7_gather.proofs.gatherer.recover.Given as goal

abbrev pub invariant-loop-number : goal.invariant-loop-number
invariant-loop-number g l = record {
  goes : OnLink (g.L.Link.events l.fn.link) (g.L.Link.events l.link) (g.L.Link.sent l.fn.link) (g.L.Link.sent l.link)
      (λ taken. Goes l.fn.gatherer.conn l._number l.fn.gatherer.client l.gatherer.client (reverse taken))
      (λ taken. SentOn l.fn.gatherer.conn (turns l.fn.gatherer.conn l.fn.gatherer.client (reverse taken)).sent);
  going : IsGoing l.gatherer.client l.gatherer.came;
  conn : l.gatherer.conn ≡ l.fn.gatherer.conn;
  asked : g.L.Link.asked l.link ≡ g.L.Link.asked l.fn.link;
  count : g.L.Link.faults l.fn.link ≤ g.L.Link.faults l.link;
}
