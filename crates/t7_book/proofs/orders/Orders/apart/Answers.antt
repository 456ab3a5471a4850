use Rattle.std.proofs.Common.{subst}
use Rattle.t7_levels.specs.Side.{Once}
use Rattle.t7_book.specs.Kept.{OrderList}
use Rattle.t7_book.proofs.Ids.{id_of, once_shown}
use Rattle.t7_book.proofs.orders.Orders.apart.Goals as goal

pub returns-clause-ids : goal.returns-clause-ids
returns-clause-ids c = subst (λ (l : OrderList). Once id_of l.list) c.self.view_is (once_shown c.self.inside.shelves.list c.once.ensures)
