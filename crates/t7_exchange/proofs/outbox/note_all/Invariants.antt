use Rattle.std.proofs.Common.{◌≡◌, ◌+◌, ◌≤◌, drop, length}
use Rattle.t7_snapshot.specs.Noting.{FitInTurn, after_all}
use Rattle.t7_exchange.proofs.outbox.note_all.Given as goal

abbrev pub invariant-loop-message : goal.invariant-loop-message
invariant-loop-message l = record {
  same : l.cycle ≡ record l.fn.cycle { noted = l.cycle.noted; image = l.cycle.image; spare = l.cycle.spare };
  noted : l.cycle.noted ≡ l.fn.cycle.noted + l.message-index;
  room : length l.messages ≤ l.cycle.spare + l.message-index;
  fit : FitInTurn l.fn.cycle.terms.listing.securities l.cycle.image (drop l.message-index l.messages);
  made : after_all l.fn.cycle.terms.listing.securities l.fn.cycle.image l.messages ≡ after_all l.fn.cycle.terms.listing.securities l.cycle.image (drop l.message-index l.messages);
}
