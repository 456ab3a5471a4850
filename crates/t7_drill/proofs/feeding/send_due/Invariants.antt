use Rattle.std.proofs.Common.{◌≡◌, List, length, ◌+◌}
use Rattle.t7_entry.specs.Days.{due}
use Rattle.t7_feed.specs.Arrivals.{AreTerms, Delivery, Terms}
use Rattle.t7_drill.specs.Entering.{due_bytes}
use Rattle.t7_drill.specs.Feeding.{Heard, cast_all}
use Rattle.t7_drill.proofs.feeding.send_due.Given as goal

abbrev pub invariant-loop-sent : goal.invariant-loop-sent
invariant-loop-sent l = record {
  day : l.exchange ≡ record l.initial.exchange { untold = l.exchange.untold; live = l.exchange.live };
  live : l.exchange.live + length (due l.exchange) ≡ l.initial.exchange.live + length (due l.initial.exchange);
  fed : (terms : Terms) (came : List Delivery) → AreTerms terms → Heard terms l.initial.member came
      → (now : List Delivery) × Heard terms l.member now
      × (cast_all (due_bytes l.exchange) (record { draw = l.draw; copies = l.copies.items; came = now })
      ≡ cast_all (due_bytes l.initial.exchange) (record { draw = l.initial.draw; copies = l.initial.copies.items; came = came }));
}

abbrev pub decreases-loop-sent : goal.decreases-loop-sent
decreases-loop-sent l = length (due l.exchange)
