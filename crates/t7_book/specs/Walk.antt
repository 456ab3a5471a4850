-- The orders that a walk is still to give.
use Rattle.std.specs.Prelude.{List}
use Rattle.t7_book.specs.declared.order.Order.{Order}
use Rattle.t7_book.specs.declared.orders.BookWalk.{BookWalk}
use Rattle.t7_book.specs.Kept.{orders_in}

-- the orders that a walk has still to give
abbrev pub walk_rest : BookWalk → List Order
walk_rest w = orders_in w.walk
