use Rattle.std.proofs.Common.{◌<◌, List, ℤ, length, sym, subst, arith}
use Rattle.t7_book.specs.declared.order.Order.{Order}
use Rattle.t7_book.specs.Orders.{same_name, without}
use Rattle.t7_book.specs.Kept.{MayEnter}
use Rattle.t7_book.proofs.Kepts.{enters_again}
use Rattle.t7_book.proofs.TradeLemmas.{length_without}
use Rattle.std.proofs.Common.{rules}
use Rattle.t7_book.proofs.StepLemmas.{messages_change, list_after_change}
use Rattle.t7_book.proofs.TradeLemmas.{trades_without}
use Rattle.t7_book.proofs.arrival.change.Goals as goal

pub admit-requires-clause-enters : goal.admit-requires-clause-enters
admit-requires-clause-enters c =
    let o = c.args.orders.now in
    let y = c.args.y.now in
    let x = c.args.x.now in
    let new = c.remove.new.self in
    let shorter = length_without (λ z. same_name y.rest z.rest) y o.list c.requires.stands in
    let room : length (without y.rest o.list) < 20_000 = let few = c.apart.ensures.few in omega (arith, shorter, few) in
    subst (λ (l : List Order). MayEnter (record { securities = new.securities; list = l }) x) (sym c.remove.ensures.list)
    (subst (λ (s : List ℤ). MayEnter (record { securities = s; list = without y.rest o.list }) x) (sym c.remove.ensures.securities)
    (enters_again o y x c.apart.ensures.stamps c.apart.ensures.ids c.requires.stands c.requires.id c.requires.listed room c.requires.new_stamp))

pub admit-requires-clause-made : goal.admit-requires-clause-made
admit-requires-clause-made c = search (rules, messages_change, list_after_change, trades_without)

pub returns-clause-orders : goal.returns-clause-orders
returns-clause-orders c = search (rules, messages_change, list_after_change, trades_without)

pub returns-clause-out : goal.returns-clause-out
returns-clause-out c = search (rules, messages_change, list_after_change, trades_without)

pub returns-clause-notes : goal.returns-clause-notes
returns-clause-notes c = search (rules, messages_change, list_after_change, trades_without)
