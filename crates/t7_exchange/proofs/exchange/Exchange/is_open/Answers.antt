use Rattle.std.proofs.Common.{Bool, sym, subst}
use Rattle.std.specs.Prelude.{MatchBool}
use Rattle.t7_entry.specs.Days.{Day}
use Rattle.t7_entry.specs.Stalls.{IsOpen, IsShut}
use Rattle.t7_entry.specs.State.{Setting}
use Rattle.t7_exchange.specs.Views.{day_of}
use Rattle.t7_exchange.proofs.ExchangeFacts.{open_or_shut}
use Rattle.t7_exchange.proofs.exchange.Exchange.is_open.Goals as goal

pub returns : goal.returns
returns c =
    let e = c.self.inside in
    let setting : Setting = record { layouts = e.table.now; listing = e.product.now } in
    let day = day_of setting e.desk.accepted e.wires e.outbox in
    subst (λ (d : Day). MatchBool c.is_open.result (IsOpen d c.args.conn) (IsShut d c.args.conn)) c.self.view_is
    (subst (λ (b : Bool). MatchBool b (IsOpen day c.args.conn) (IsShut day c.args.conn)) (sym c.is_open.ensures.value) (open_or_shut setting e.desk.accepted e.outbox e.wires c.args.conn))
