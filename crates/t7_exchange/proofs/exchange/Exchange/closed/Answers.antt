use Rattle.std.proofs.Common.{sym, ap, ◌∙◌, subst}
use Rattle.t7_entry.specs.Days.{Day, day_after}
use Rattle.t7_entry.specs.Events.{Closed}
use Rattle.t7_entry.specs.State.{Setting}
use Rattle.t7_exchange.specs.Maps.{HoldOnly}
use Rattle.t7_exchange.specs.Wires.{Wires}
use Rattle.t7_exchange.proofs.ExchangeFacts.{closed_day}
use Rattle.t7_exchange.proofs.HoldFacts.{only_removed}
use Rattle.t7_exchange.proofs.exchange.Exchange.closed.Goals as goal

pub invariant_of-self : goal.invariant_of-self
invariant_of-self c =
    let e = c.self.inside in
    let was = c.self.invariant in
    record {
      table = was.table;
      listing = was.listing;
      roster = was.roster;
      accepted = was.accepted;
      tellable = was.tellable;
      ranged = was.ranged;
      sessions = subst (λ (w : Wires). HoldOnly e.product.now.sessions w.held) (sym c.forget.ensures) (only_removed e.product.now.sessions e.wires.held c.args.conn was.sessions);
      terms = was.terms;
      told = was.told;
    }

pub returns : goal.returns
returns c =
    let e = c.self.inside in
    let setting : Setting = record { layouts = e.table.now; listing = e.product.now } in
    closed_day setting e.desk.accepted e.outbox e.wires c.forget.new.self c.args.conn c.forget.ensures ∙ ap (λ (d : Day). day_after d (Closed c.args.conn)) c.self.view_is
