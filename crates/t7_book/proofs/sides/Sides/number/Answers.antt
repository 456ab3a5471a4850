use Rattle.std.proofs.Common.{sym, ◌∙◌, arith}
use Rattle.t7_book.specs.Orders.{rank_of}
use Rattle.t7_book.specs.Numbers.{is_listed}
use Rattle.t7_book.proofs.Noting.{noted_place}
use Rattle.t7_book.proofs.Numbered.{rank_fits}
use Rattle.t7_book.proofs.sides.Sides.number.Goals as goal

pub number_at-requires : goal.number_at-requires
number_at-requires c =
    let S = c.self.inside.securities.items in
    let s = c.security.inside.0 in
    let e = noted_place (is_listed S s) (rank_of S s) c.in-Some.rank.now (sym (c.self.invariant.0 s) ∙ sym c.in-Some.ensures.value) in
    omega (arith, e.1, rank_fits S s e.0, c.self.invariant.1)
