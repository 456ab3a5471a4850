use Rattle.std.proofs.Common.{◌&&◌, not, length, sym, ap, ◌∙◌, arith}
use Rattle.std.specs.List.{filter}
use Rattle.std.specs.Ordering.{int_eq}
use Rattle.t7_book.specs.Orders.{is_side}
use Rattle.t7_mbook.proofs.ClearLemmas.{one_fewer, others_stay, none_goes, none_of}
use Rattle.t7_mbook.proofs.orders.Orders.remove_side.Goals as goal

pub loop-first-smaller : goal.loop-first-smaller
loop-first-smaller c = omega (arith, one_fewer c.args.security c.args.side c.loop-first.self.list c.in-Some.first (sym c.first.ensures ∙ c.in-Some.is), ap length c.remove.ensures.list)

pub loop-first-preserved : goal.loop-first-preserved
loop-first-preserved c = record {
  list = ap (filter (λ y. not (int_eq y.security c.args.security && is_side y.side c.args.side))) c.remove.ensures.list ∙ others_stay c.args.security c.args.side c.in-Some.first.stamp c.loop-first.self.list ∙ c.loop-first.invariant.list;
  securities = c.remove.ensures.securities ∙ c.loop-first.invariant.securities;
}

pub returns-clause-list : goal.returns-clause-list
returns-clause-list c =
    sym (none_goes (λ y. int_eq y.security c.args.security && is_side y.side c.args.side) c.loop-first.self.list (sym c.first.ensures ∙ none_of c.first.result (λ y is. c.in_default.not-Some y is)))
    ∙ c.loop-first.invariant.list
