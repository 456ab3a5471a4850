use Rattle.std.proofs.Common.{◌≡◌, ℤ, true, sym, ap, subst, ◌∙◌, arith}
use Rattle.std.specs.Prelude.{◌==◌}
use Rattle.t7_base.specs.declared.ids.Side.{Side}
use Rattle.t7_levels.specs.Side.{from_first}
use Rattle.t7_book.specs.declared.kept.Kept.{Kept}
use Rattle.t7_book.specs.Trades.{crosses}
use Rattle.t7_book.specs.Numbers.{is_listed}
use Rattle.t7_book.specs.Kept.{EndsAtFirst, OrderList, is_on, orders_in}
use Rattle.t7_book.proofs.Numbered.{from_shown, number_fits, sides_alike}
use Rattle.t7_book.proofs.Kepts.{listed_each}
use Rattle.t7_book.proofs.Ends.{ends}
use Rattle.t7_book.proofs.orders.Orders.walk_of.Goals as goal

pub listed_number-number-requires : goal.listed_number-number-requires
listed_number-number-requires c = ap (λ (l : OrderList). is_listed l.securities c.args.security) c.self.view_is ∙ c.requires

pub walk_of-requires : goal.walk_of-requires
walk_of-requires c =
    let S = c.self.inside.sides in
    let listed : is_listed S c.args.security ≡ true = ap (λ (l : OrderList). is_listed l.securities c.args.security) c.self.view_is ∙ c.requires in
    omega (arith, c.listed_number-number.ensures, number_fits S c.args.security c.args.side listed, c.self.invariant.sides)

pub returns-clause-rest : goal.returns-clause-rest
returns-clause-rest c =
    let S = c.self.inside.sides in
    let list = c.self.inside.shelves.list in
    let listed : is_listed S c.args.security ≡ true = ap (λ (l : OrderList). is_listed l.securities c.args.security) c.self.view_is ∙ c.requires in
    ap orders_in c.walk_of.ensures
    ∙ from_shown (λ (k : Kept). k.number == c.listed_number-number.result) (is_on c.args.security c.args.side) list (sides_alike S c.args.security c.args.side c.listed_number-number.result list listed c.listed_number-number.ensures c.self.invariant.numbered)
    ∙ ap (λ (l : OrderList). from_first (is_on c.args.security c.args.side) l.list) c.self.view_is

pub returns-clause-ends : goal.returns-clause-ends
returns-clause-ends c x security side =
    let S = c.self.inside.sides in
    let list = c.self.inside.shelves.list in
    let listed : is_listed S c.args.security ≡ true = ap (λ (l : OrderList). is_listed l.securities c.args.security) c.self.view_is ∙ c.requires in
    let shown = ap orders_in c.walk_of.ensures
    ∙ from_shown (λ (k : Kept). k.number == c.listed_number-number.result) (is_on c.args.security c.args.side) list (sides_alike S c.args.security c.args.side c.listed_number-number.result list listed c.listed_number-number.ensures c.self.invariant.numbered)
    ∙ ap (λ (s : ℤ). from_first (is_on s c.args.side) (orders_in list)) (sym security)
    ∙ ap (λ (s : Side). from_first (is_on x.security s) (orders_in list)) (sym side) in
    subst (EndsAtFirst (λ y. crosses x y.rest)) (sym shown)
    (ends S x (ap (is_listed S) security ∙ listed) (orders_in list) c.self.invariant.in_order (listed_each S list c.self.invariant.numbered))
