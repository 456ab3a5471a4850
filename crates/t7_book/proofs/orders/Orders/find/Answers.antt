use Rattle.std.proofs.Common.{ℕ, ap, ◌∙◌}
use Rattle.std.specs.List.{find}
use Rattle.t7_book.specs.Orders.{order_of}
use Rattle.t7_book.specs.Kept.{OrderList, owned}
use Rattle.t7_book.proofs.Numbered.{is_named}
use Rattle.t7_book.proofs.Ids.{once_shown, owner_found}
use Rattle.t7_book.proofs.orders.Orders.find.Goals as goal

pub returns : goal.returns
returns c =
    let list = c.self.inside.shelves.list in
    c.owned.ensures
    ∙ ap (owned c.args.session) c.find.ensures
    ∙ ap (λ (n : ℕ). owned c.args.session (find (is_named n) list)) c.name_of.ensures
    ∙ owner_found c.args.session c.args.id list (once_shown list c.once.ensures)
    ∙ ap (λ (l : OrderList). order_of l.list c.args.session c.args.id) c.self.view_is
