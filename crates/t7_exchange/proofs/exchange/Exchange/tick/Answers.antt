use Rattle.std.proofs.Common.{ap, ◌∙◌}
use Rattle.t7_entry.specs.Days.{Day, day_after}
use Rattle.t7_entry.specs.Events.{Tick}
use Rattle.t7_entry.specs.State.{Setting}
use Rattle.t7_exchange.proofs.ExchangeFacts.{both_ok, ticked_day}
use Rattle.t7_exchange.proofs.exchange.Exchange.tick.Goals as goal

pub returns-clause-ok : goal.returns-clause-ok
returns-clause-ok c =
    let e = c.self.inside in
    let setting : Setting = record { layouts = e.table.now; listing = e.product.now } in
    both_ok c.tick.result (λ acts inputs.
    ticked_day setting e.desk.accepted e.outbox e.wires c.tick.new.self c.args.moment (acts e.desk.accepted) (inputs e.desk.accepted) ∙ ap (λ (d : Day). day_after d (Tick c.args.moment)) c.self.view_is)
    c.tick.ensures.acts c.tick.ensures.inputs
