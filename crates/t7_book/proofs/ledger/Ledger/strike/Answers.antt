use Rattle.std.proofs.Common.{sym, subst, ◌≡◌, Some}
use Rattle.t7_book.specs.Orders.{BookState, order_of}
use Rattle.t7_book.specs.Sound.{IsRunning}
use Rattle.t7_book.proofs.Kepts.{found_stands}
use Rattle.t7_book.proofs.ledger.Ledger.strike.Goals as goal

pub remove-requires : goal.remove-requires
remove-requires c =
    let inside = c.self.inside in
    let book : BookState = record { roster = record { securities = inside.orders.securities; sessions = inside.sessions.items }; orders = inside.orders.list; last_id = inside.last_id; last_stamp = inside.last_stamp; applied = inside.applied } in
    let same : book ≡ c.args.self.now = c.self.view_is in
    let running : IsRunning book = subst IsRunning (sym same) c.requires.running in
    let found : order_of inside.orders.list c.args.session c.args.id ≡ Some c.args.y.now = subst (λ (b : BookState). order_of b.orders c.args.session c.args.id ≡ Some c.args.y.now) (sym same) c.requires.found in
    let stand = found_stands c.args.session c.args.id c.args.y.now inside.orders.list running.list.once found in
    stand
