use Rattle.std.proofs.Common.{◌≡◌, List, length, ap, arith, rules}
use Rattle.std.specs.List.{filter}
use Rattle.t7_book.specs.declared.order.Order.{Order}
use Rattle.t7_book.specs.Orders.{is_of}
use Rattle.t7_book.specs.Walk.{walk_rest}
use Rattle.t7_book.proofs.ListLemmas.{length_filter_le}
use Rattle.t7_book.proofs.orders.Orders.count_of.Goals as goal

pub loop-y-init : goal.loop-y-init
loop-y-init c =
    let is : walk_rest c.into_iter-y-iterator.result ≡ c.args.self.now.list = search rules in
    let all = ap (λ (ys : List Order). length (filter (is_of c.args.session c.args.security) ys)) is in
    let le = length_filter_le (is_of c.args.session c.args.security) c.args.self.now.list in
    let few = c.apart.ensures.few in
    record { counted = omega (arith, all); few = omega (arith, le, few) }
