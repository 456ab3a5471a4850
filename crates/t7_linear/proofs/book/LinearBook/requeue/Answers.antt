use Rattle.std.proofs.Common.{arith, ◌≡◌, Some, subst, sym}
use Rattle.t7_book.specs.Orders.{BookState, order_of, is_order}
use Rattle.t7_book.proofs.TradeLemmas.{length_without}
use Rattle.t7_linear.proofs.book.LinearBook.requeue.Goals as goal

-- the order that was found rests in the book
pub change-requires-clause-rests : goal.change-requires-clause-rests
change-requires-clause-rests c =
    let found : order_of c.self.inside.orders c.args.session c.args.id ≡ Some c.args.y.now =
    subst (λ (b : BookState). order_of b.orders c.args.session c.args.id ≡ Some c.args.y.now) (sym c.self.view_is) c.requires.found in
    let shorter = length_without (is_order c.args.session c.args.id) c.args.y.now c.self.inside.orders found in
    omega (arith, shorter)
