use Rattle.std.proofs.Common.{◌<◌, sym, ap, ◌∙◌, subst}
use Rattle.t7_entry.specs.ByNumber.{len}
use Rattle.t7_entry.specs.Days.{Day, day_after}
use Rattle.t7_entry.specs.Events.{Opened}
use Rattle.t7_entry.specs.Stalls.{IsShut}
use Rattle.t7_entry.specs.State.{Setting}
use Rattle.t7_exchange.specs.Maps.{HoldOnly}
use Rattle.t7_exchange.specs.Wires.{Wires}
use Rattle.t7_exchange.proofs.ExchangeFacts.{by_result, opened_day}
use Rattle.t7_exchange.proofs.HoldFacts.{only_opened}
use Rattle.t7_exchange.proofs.ServeFacts.{on_ok}
use Rattle.t7_exchange.proofs.exchange.Exchange.opened.Goals as goal

pub invariant_of-self : goal.invariant_of-self
invariant_of-self c =
    let e = c.self.inside in
    let was = c.self.invariant in
    let sessions = e.product.now.sessions in
    record {
      table = was.table;
      listing = was.listing;
      roster = was.roster;
      accepted = was.accepted;
      tellable = was.tellable;
      ranged = was.ranged;
      sessions = by_result c.open.result
          (λ ok. subst (λ (w : Wires). HoldOnly sessions w.held) (sym ok) (only_opened sessions e.wires.held c.args.conn was.sessions))
          (λ err. subst (λ (w : Wires). HoldOnly sessions w.held) (sym err) was.sessions) c.open.ensures.ok c.open.ensures.err;
      terms = was.terms;
      told = was.told;
    }

pub returns-clause-ok : goal.returns-clause-ok
returns-clause-ok c =
    let e = c.self.inside in
    let setting : Setting = record { layouts = e.table.now; listing = e.product.now } in
    on_ok c.open.result (λ ok.
    opened_day setting e.desk.accepted e.outbox e.wires c.open.new.self c.args.conn (subst (λ (d : Day). IsShut d c.args.conn) (sym c.self.view_is) c.requires.shut)
    (subst (λ (d : Day). len d.state.inputs < 1024) (sym c.self.view_is) c.requires.few) ok
    ∙ ap (λ (d : Day). day_after d (Opened c.args.conn)) c.self.view_is) c.open.ensures.ok
