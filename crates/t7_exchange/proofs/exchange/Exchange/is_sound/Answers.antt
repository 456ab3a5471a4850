use Rattle.std.proofs.Common.{subst}
use Rattle.t7_entry.specs.Days.{Day}
use Rattle.t7_entry.specs.State.{Setting}
use Rattle.t7_exchange.specs.Paired.{ArePaired}
use Rattle.t7_exchange.proofs.ExchangeFacts.{paired}
use Rattle.t7_exchange.proofs.exchange.Exchange.is_sound.Goals as goal

pub returns-clause-paired : goal.returns-clause-paired
returns-clause-paired c =
    let e = c.self.inside in
    let setting : Setting = record { layouts = e.table.now; listing = e.product.now } in
    subst (λ (d : Day). ArePaired d.state) c.self.view_is (paired setting e.desk.accepted e.outbox e.wires)
