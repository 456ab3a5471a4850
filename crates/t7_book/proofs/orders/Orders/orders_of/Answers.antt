use Rattle.std.proofs.Common.{◌≡◌, ◌++◌, [], List, length, ap, sym, ◌∙◌, append-nil, arith, rules}
use Rattle.std.specs.List.{filter}
use Rattle.t7_book.specs.declared.order.Order.{Order}
use Rattle.t7_book.specs.Orders.{is_of}
use Rattle.t7_book.specs.Walk.{walk_rest}
use Rattle.t7_book.proofs.ListLemmas.{length_filter_le}
use Rattle.t7_book.proofs.orders.Orders.orders_of.Goals as goal

pub returns-clause-within : goal.returns-clause-within
returns-clause-within c =
    let found = c.loop-y.found.items in
    let list = c.args.self.now.list in
    let none : walk_rest c.loop-y.y-iterator ≡ [] = search rules in
    let all : found ≡ filter (is_of c.args.session c.args.security) list =
    sym (append-nil found) ∙ ap (λ (ys : List Order). found ++ filter (is_of c.args.session c.args.security) ys) (sym none) ∙ c.loop-y.invariant in
    let le = length_filter_le (is_of c.args.session c.args.security) list in
    let few = c.apart.ensures.few in
    omega (arith, ap length all, le, few)
