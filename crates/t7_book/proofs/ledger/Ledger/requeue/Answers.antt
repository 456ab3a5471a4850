use Rattle.std.proofs.Common.{arith, sym, subst, ap, ◌∙◌, ◌≡◌, ◌≢◌, Some}
use Rattle.t7_book.specs.declared.order.Order.{Order}
use Rattle.t7_book.specs.Orders.{BookState, order_of, is_order}
use Rattle.t7_book.specs.Commands.{new_stamp}
use Rattle.t7_book.specs.Laws.{Each}
use Rattle.t7_book.specs.Numbers.{is_listed}
use Rattle.t7_book.specs.Sound.{IsEarlier, IsRunning}
use Rattle.t7_book.proofs.Kepts.{found_stands}
use Rattle.t7_book.proofs.Lists.{each_at, each_weaker, found_in}
use Rattle.t7_book.proofs.NextBook.{listed_from}
use Rattle.t7_book.proofs.ledger.Ledger.requeue.Goals as goal

pub change-requires-clause-stands : goal.change-requires-clause-stands
change-requires-clause-stands c =
    let inside = c.self.inside in
    let book : BookState = record { roster = record { securities = inside.orders.securities; sessions = inside.sessions.items }; orders = inside.orders.list; last_id = inside.last_id; last_stamp = inside.last_stamp; applied = inside.applied } in
    let same : book ≡ c.args.self.now = c.self.view_is in
    let running : IsRunning book = subst IsRunning (sym same) c.requires.running in
    let found : order_of inside.orders.list c.args.session c.args.id ≡ Some c.args.y.now = subst (λ (b : BookState). order_of b.orders c.args.session c.args.id ≡ Some c.args.y.now) (sym same) c.requires.found in
    let stand = found_stands c.args.session c.args.id c.args.y.now inside.orders.list running.list.once found in
    stand

pub change-requires-clause-listed : goal.change-requires-clause-listed
change-requires-clause-listed c =
    let inside = c.self.inside in
    let book : BookState = record { roster = record { securities = inside.orders.securities; sessions = inside.sessions.items }; orders = inside.orders.list; last_id = inside.last_id; last_stamp = inside.last_stamp; applied = inside.applied } in
    let same : book ≡ c.args.self.now = c.self.view_is in
    let running : IsRunning book = subst IsRunning (sym same) c.requires.running in
    let found : order_of inside.orders.list c.args.session c.args.id ≡ Some c.args.y.now = subst (λ (b : BookState). order_of b.orders c.args.session c.args.id ≡ Some c.args.y.now) (sym same) c.requires.found in
    let stand = found_stands c.args.session c.args.id c.args.y.now inside.orders.list running.list.once found in
    let y = c.args.y.now in
    let earlier = each_at (IsEarlier book) y inside.orders.list running.earlier (found_in (is_order c.args.session c.args.id) y inside.orders.list found) in
    ap (λ (x : Order). is_listed inside.orders.securities x.rest.security) c.changed_order-x.ensures ∙ listed_from inside.orders.securities y.rest.security earlier.listed

pub change-requires-clause-new_stamp : goal.change-requires-clause-new_stamp
change-requires-clause-new_stamp c =
    let inside = c.self.inside in
    let book : BookState = record { roster = record { securities = inside.orders.securities; sessions = inside.sessions.items }; orders = inside.orders.list; last_id = inside.last_id; last_stamp = inside.last_stamp; applied = inside.applied } in
    let same : book ≡ c.args.self.now = c.self.view_is in
    let running : IsRunning book = subst IsRunning (sym same) c.requires.running in
    let stamp : c.next_stamp-stamp.result ≡ new_stamp book c.args.moment = subst (λ (b : BookState). c.next_stamp-stamp.result ≡ new_stamp b c.args.moment) (sym same) c.next_stamp-stamp.ensures in
    subst (λ (x : Order). Each (λ z. z.rest.stamp ≢ x.rest.stamp) inside.orders.list) (sym c.changed_order-x.ensures)
    (each_weaker (IsEarlier book) (λ z. z.rest.stamp ≢ c.next_stamp-stamp.result) (λ z earlier is. let e = earlier.stamp in omega (arith, e, is, stamp)) inside.orders.list running.earlier)
