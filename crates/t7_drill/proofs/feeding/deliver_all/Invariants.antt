use Rattle.std.proofs.Common.{◌≡◌, List, drop}
use Rattle.t7_feed.specs.Arrivals.{AreTerms, Delivery, Terms}
use Rattle.t7_drill.specs.Feeding.{Heard, all_delivered}
use Rattle.t7_drill.proofs.feeding.deliver_all.Given as goal

abbrev pub invariant-loop-datagram : goal.invariant-loop-datagram
invariant-loop-datagram l = (terms : Terms) (came : List Delivery) → AreTerms terms → Heard terms l.initial.member came
    → (now : List Delivery) × Heard terms l.member now × (all_delivered l.feed (drop l.datagram-index l.datagrams) now ≡ all_delivered l.feed l.datagrams came)
