use Rattle.std.proofs.Common.{◌≡◌, List, ℤ, sym, ap, subst, ◌∙◌}
use Rattle.t7_book.specs.declared.order.Order.{Order}
use Rattle.t7_book.specs.declared.trade.Trade.{Trade}
use Rattle.t7_book.specs.Orders.{with_left}
use Rattle.t7_book.specs.Trades.{after_trades, trades}
use Rattle.t7_book.specs.Kept.{MayEnter}
use Rattle.t7_book.proofs.Kepts.{enters_after}
use Rattle.std.proofs.Common.{rules}
use Rattle.t7_book.proofs.StepLemmas.{settled_some, settled_none}
use Rattle.t7_book.proofs.arrival.settle.Goals as goal

pub place-requires : goal.place-requires
place-requires c =
    let o = c.args.orders.now in
    let x = c.args.x.now in
    let left = c.in-Some.left in
    let new = c.carry_out.new.orders in
    let after : new.list ≡ after_trades (trades x.rest o.list) o.list = c.carry_out.ensures.list ∙ ap (λ (ts : List Trade). after_trades ts o.list) c.requires.made in
    subst (λ (y : Order). MayEnter new y) (sym c.with_left.ensures)
    (subst (λ (l : List Order). MayEnter (record { securities = new.securities; list = l }) (with_left x left)) (sym after)
    (subst (λ (s : List ℤ). MayEnter (record { securities = s; list = after_trades (trades x.rest o.list) o.list }) (with_left x left)) (sym c.carry_out.ensures.securities)
    (enters_after o x left c.apart.ensures.stamps c.requires.enters)))

pub returns-in-Some-clause-list : goal.returns-in-Some-clause-list
returns-in-Some-clause-list c = search (rules, settled_some, settled_none)

pub returns-in_default-clause-list : goal.returns-in_default-clause-list
returns-in_default-clause-list c = search (rules, settled_some, settled_none)
