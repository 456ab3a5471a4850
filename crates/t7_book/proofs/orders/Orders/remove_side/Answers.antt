use Rattle.std.proofs.Common.{not, length, sym, ap, ◌∙◌, arith}
use Rattle.std.specs.List.{filter}
use Rattle.std.specs.Option.{option_copied}
use Rattle.t7_book.specs.Kept.{is_on}
use Rattle.t7_book.proofs.Clearing.{found_passes, others_stay, none_goes, none_of}
use Rattle.t7_book.proofs.Lists.{found_in, stands}
use Rattle.t7_book.proofs.TradeLemmas.{length_without}
use Rattle.t7_book.proofs.orders.Orders.remove_side.Goals as goal

pub remove-requires : goal.remove-requires
remove-requires c =
    stands c.in-Some.first.now c.loop-first.self.list c.loop-first.invariant.distinct (found_in (is_on c.args.security c.args.side) c.in-Some.first.now c.loop-first.self.list (sym c.first.ensures ∙ ap option_copied c.in-Some.is))

pub loop-first-smaller : goal.loop-first-smaller
loop-first-smaller c = omega (arith, length_without (is_on c.args.security c.args.side) c.in-Some.first.now c.loop-first.self.list (sym c.first.ensures ∙ ap option_copied c.in-Some.is), ap length c.remove.ensures.list)

pub loop-first-preserved : goal.loop-first-preserved
loop-first-preserved c = record {
  list = ap (filter (λ y. not (is_on c.args.security c.args.side y))) c.remove.ensures.list
      ∙ others_stay c.args.security c.args.side c.in-Some.first.now c.loop-first.self.list (found_passes (is_on c.args.security c.args.side) c.loop-first.self.list c.in-Some.first.now (sym c.first.ensures ∙ ap option_copied c.in-Some.is))
      ∙ c.loop-first.invariant.list;
  securities = c.remove.ensures.securities ∙ c.loop-first.invariant.securities;
  distinct = c.apart-in-Some.ensures.stamps;
}

pub returns-clause-list : goal.returns-clause-list
returns-clause-list c =
    sym (none_goes (is_on c.args.security c.args.side) c.loop-first.self.list (sym c.first.ensures ∙ ap option_copied (none_of c.first.result (λ y is. c.in_default.not-Some y is))))
    ∙ c.loop-first.invariant.list
