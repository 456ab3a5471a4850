use Rattle.std.proofs.Common.{◌≡◌, List, sym, ap, subst, refl, ◌∙◌}
use Rattle.std.specs.Prelude.{IfOk}
use Rattle.t7_base.specs.declared.ids.Side.{Side}
use Rattle.t7_book.specs.declared.trade.Trade.{Trade}
use Rattle.t7_levels.specs.Side.{from_first}
use Rattle.t7_book.specs.Kept.{is_on}
use Rattle.t7_book.specs.Trades.{trades}
use Rattle.t7_book.proofs.Ends.{trades_from}
use Rattle.t7_book.proofs.orders.Orders.trades.Goals as goal

pub trades_of-requires : goal.trades_of-requires
trades_of-requires c = c.walk_of-others.ensures.ends c.args.x.now refl (sym c.opposite.ensures)

pub returns-clause-trades : goal.returns-clause-trades
returns-clause-trades c =
    let x = c.args.x.now in
    let all = ap (trades x) (c.walk_of-others.ensures.rest ∙ ap (λ (s : Side). from_first (is_on x.security s) c.args.self.now.list) c.opposite.ensures) ∙ trades_from x c.args.self.now.list in
    subst (λ (ts : List Trade). IfOk c.trades_of.result (λ found. found.items ≡ ts)) all c.trades_of.ensures.trades

pub returns-clause-few : goal.returns-clause-few
returns-clause-few c = c.apart.ensures.few
