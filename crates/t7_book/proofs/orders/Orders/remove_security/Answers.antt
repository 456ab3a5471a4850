use Rattle.std.proofs.Common.{not, ap, ◌∙◌}
use Rattle.std.specs.List.{filter}
use Rattle.t7_base.specs.declared.ids.Side.TheVariants.{Sell}
use Rattle.t7_book.specs.Kept.{is_on}
use Rattle.t7_book.proofs.Clearing.{both_sides}
use Rattle.t7_book.proofs.orders.Orders.remove_security.Goals as goal

pub returns-clause-list : goal.returns-clause-list
returns-clause-list c =
    c.remove_side-2.ensures.list
    ∙ ap (filter (λ y. not (is_on c.args.security Sell y))) c.remove_side.ensures.list
    ∙ both_sides c.args.security c.args.self.now.list
