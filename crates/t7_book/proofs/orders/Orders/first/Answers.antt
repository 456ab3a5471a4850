use Rattle.std.proofs.Common.{sym, ap, ◌∙◌, arith}
use Rattle.std.specs.Prelude.{◌==◌}
use Rattle.std.specs.List.{find}
use Rattle.t7_book.specs.declared.kept.Kept.{Kept}
use Rattle.t7_book.specs.Numbers.{is_listed, number_of}
use Rattle.t7_book.specs.Kept.{OrderList, is_on, order_in}
use Rattle.t7_book.proofs.Numbered.{find_shown, listed_is, none_found, none_here, number_fits, sides_alike, unlisted_is}
use Rattle.t7_book.proofs.orders.Orders.first.Goals as goal

pub returns-in-None : goal.returns-in-None
returns-in-None c =
    let S = c.self.inside.sides in
    let list = c.self.inside.shelves.list in
    let none = none_here S c.args.security c.args.side list (unlisted_is (is_listed S c.args.security) (number_of S c.args.security c.args.side) (sym c.number.ensures ∙ c.in-None.is)) c.self.invariant.numbered in
    sym (none_found (is_on c.args.security c.args.side) list none) ∙ ap (λ (l : OrderList). find (is_on c.args.security c.args.side) l.list) c.self.view_is

pub first_of-requires : goal.first_of-requires
first_of-requires c =
    let S = c.self.inside.sides in
    let e = listed_is (is_listed S c.args.security) (number_of S c.args.security c.args.side) c.in-Some.number (sym c.number.ensures ∙ c.in-Some.is) in
    omega (arith, e.1, number_fits S c.args.security c.args.side e.0, c.self.invariant.sides)

pub returns-in-Some : goal.returns-in-Some
returns-in-Some c =
    let S = c.self.inside.sides in
    let list = c.self.inside.shelves.list in
    let e = listed_is (is_listed S c.args.security) (number_of S c.args.security c.args.side) c.in-Some.number (sym c.number.ensures ∙ c.in-Some.is) in
    c.order_in.ensures
    ∙ ap order_in c.first_of.ensures
    ∙ find_shown (λ (k : Kept). k.number == c.in-Some.number) (is_on c.args.security c.args.side) list (sides_alike S c.args.security c.args.side c.in-Some.number list e.0 e.1 c.self.invariant.numbered)
    ∙ ap (λ (l : OrderList). find (is_on c.args.security c.args.side) l.list) c.self.view_is
