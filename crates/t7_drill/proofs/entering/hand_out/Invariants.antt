use Rattle.std.proofs.Common.{◌≡◌, ◌||◌, length}
use Rattle.t7_drill.specs.Entering.{some_reject}
use Rattle.t7_drill.proofs.entering.hand_out.Given as goal

abbrev pub invariant-loop-reply : goal.invariant-loop-reply
invariant-loop-reply l = record {
  day : l.exchange ≡ record l.initial.exchange { waiting = l.exchange.waiting };
  rejected : (l.rejected || some_reject l.exchange.waiting) ≡ some_reject l.initial.exchange.waiting;
}

abbrev pub decreases-loop-reply : goal.decreases-loop-reply
decreases-loop-reply l = length l.exchange.waiting
