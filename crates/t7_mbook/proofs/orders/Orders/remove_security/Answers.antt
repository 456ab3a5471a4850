use Rattle.std.proofs.Common.{◌&&◌, not, ap, ◌∙◌}
use Rattle.std.specs.List.{filter}
use Rattle.std.specs.Ordering.{int_eq}
use Rattle.t7_base.specs.declared.ids.Side.TheVariants.{Sell}
use Rattle.t7_book.specs.Orders.{is_side}
use Rattle.t7_mbook.proofs.ClearLemmas.{both_sides}
use Rattle.t7_mbook.proofs.orders.Orders.remove_security.Goals as goal

pub returns-clause-list : goal.returns-clause-list
returns-clause-list c =
    c.remove_side-2.ensures.list
    ∙ ap (filter (λ y. not (int_eq y.security c.args.security && is_side y.side Sell))) c.remove_side.ensures.list
    ∙ both_sides c.args.security c.args.self.now.list
