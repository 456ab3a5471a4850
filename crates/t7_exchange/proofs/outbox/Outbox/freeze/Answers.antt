use Rattle.std.proofs.Common.{ap, ◌∙◌, sym}
use Rattle.t7_snapshot.specs.Sending.{CycleState}
use Rattle.t7_exchange.proofs.OutboxFacts.{cycle_some}
use Rattle.t7_exchange.proofs.outbox.Outbox.freeze.Goals as goal

pub returns-then-not-under_way-clause-left : goal.returns-then-not-under_way-clause-left
returns-then-not-under_way-clause-left c = λ none.
    let e = c.self.inside.cycle in
    cycle_some e.terms e.noted e.image (sym (ap (λ (s : CycleState). s.left) c.begin.ensures) ∙ none)
