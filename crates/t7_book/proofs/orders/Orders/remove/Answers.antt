use Rattle.std.proofs.Common.{◌≡◌, ◌+◌, ◌-◌, get_or, ◌<◌, ℕ, true, not, List, length, sym, ap, subst, ◌∙◌, arith}
use Rattle.std.specs.List.{filter}
use Rattle.t7_levels.specs.Chain as chain
use Rattle.t7_book.specs.declared.kept.Kept.{Kept}
use Rattle.t7_book.specs.declared.order.Order.{Order}
use Rattle.t7_book.specs.Orders.{same_name, without}
use Rattle.t7_book.specs.Laws.{Distinct, IsInOrder}
use Rattle.t7_book.specs.Numbers.{is_listed}
use Rattle.t7_book.specs.Kept.{IsNumbered, OrderList, Stands, orders_in}
use Rattle.t7_book.proofs.InOrder.{in_order_filter}
use Rattle.t7_book.proofs.Lists.{distinct_filter, each_at}
use Rattle.t7_book.proofs.Numbered.{each_kept, fewer_kept, filter_shown, is_named}
use Rattle.t7_book.proofs.Ids.{in_list, kept_alike}
use Rattle.t7_book.proofs.Kepts.{listed_each}
use Rattle.std.proofs.lemmas.List.{length-set}
use Rattle.t7_book.proofs.Counting.{as_one, count_without, counted_down, some_counted}
use Rattle.t7_book.proofs.Numbered.{rank_fits}
use Rattle.t7_book.specs.Kept.{AreCounted, count_at, is_ranked}
use Rattle.t7_book.proofs.orders.Orders.remove.Goals as goal

pub listed_rank-rank-requires : goal.listed_rank-rank-requires
listed_rank-rank-requires c =
    let S = c.self.inside.sides in
    let list = c.self.inside.shelves.list in
    let y = c.args.x.now in
    let at = in_list y (orders_in list) (subst (λ (l : OrderList). Stands l.list y) (sym c.self.view_is) c.requires) in
    each_at (λ z. is_listed S z.rest.security ≡ true) y (orders_in list) (listed_each S list c.self.invariant.numbered) at

pub count_down-requires-clause-within : goal.count_down-requires-clause-within
count_down-requires-clause-within c =
    let S = c.self.inside.sides in
    let list = c.self.inside.shelves.list in
    let y = c.args.x.now in
    let at = in_list y (orders_in list) (subst (λ (l : OrderList). Stands l.list y) (sym c.self.view_is) c.requires) in
    let listed = each_at (λ z. is_listed S z.rest.security ≡ true) y (orders_in list) (listed_each S list c.self.invariant.numbered) at in
    omega (arith, c.listed_rank-rank.ensures, rank_fits S y.rest.security listed, c.self.invariant.places)

pub count_down-requires-clause-some : goal.count_down-requires-clause-some
count_down-requires-clause-some c =
    let S = c.self.inside.sides in
    let list = c.self.inside.shelves.list in
    let y = c.args.x.now in
    let at = in_list y (orders_in list) (subst (λ (l : OrderList). Stands l.list y) (sym c.self.view_is) c.requires) in
    let listed = each_at (λ z. is_listed S z.rest.security ≡ true) y (orders_in list) (listed_each S list c.self.invariant.numbered) at in
    let within : c.listed_rank-rank.result < length S = omega (arith, c.listed_rank-rank.ensures, rank_fits S y.rest.security listed) in
    some_counted S c.self.inside.counts.items (orders_in list) y c.listed_rank-rank.result c.self.invariant.counted c.self.invariant.distinct at c.listed_rank-rank.ensures within

pub invariant_of-self : goal.invariant_of-self
invariant_of-self c =
    let S = c.self.inside.sides in
    let list = c.self.inside.shelves.list in
    let y = c.args.x.now in
    let at = in_list y (orders_in list) (subst (λ (l : OrderList). Stands l.list y) (sym c.self.view_is) c.requires) in
    let alike = kept_alike y list c.self.invariant.distinct c.once.ensures at in
    let now = c.remove.ensures.list ∙ ap (λ (n : ℕ). filter (λ (k : Kept). not (is_named n k)) list) c.name_of.ensures in
    let shown = ap orders_in now ∙ filter_shown (is_named y.id) (λ z. same_name y.rest z.rest) list alike in
    record {
      places = omega (arith, ap length c.count_down.ensures, length-set c.self.inside.counts.items c.listed_rank-rank.result (get_or c.self.inside.counts.items c.listed_rank-rank.result 0 - 1), c.self.invariant.places);
      counted = subst (λ (n : List ℕ). AreCounted S n (orders_in c.remove.new.self.list)) (sym c.count_down.ensures)
          (counted_down S c.self.inside.counts.items (orders_in list) (orders_in c.remove.new.self.list) y c.listed_rank-rank.result c.self.invariant.counted c.self.invariant.places c.listed_rank-rank.ensures
          (λ i. count_without (is_ranked S i) y (orders_in list) c.self.invariant.distinct at ∙ sym (ap (λ (us : List Order). count_at S i us + as_one (is_ranked S i y)) shown)));
      sides = c.remove.ensures.sides ∙ c.self.invariant.sides;
      numbered = subst (chain.Each (IsNumbered S)) (sym now) (each_kept (is_named y.id) (IsNumbered S) list c.self.invariant.numbered);
      few = omega (arith, ap length now, fewer_kept (is_named y.id) list, c.self.invariant.few);
      in_order = subst (IsInOrder S) (sym shown) (in_order_filter S (λ z. not (same_name y.rest z.rest)) (orders_in list) c.self.invariant.in_order);
      distinct = subst Distinct (sym shown) (distinct_filter (λ z. not (same_name y.rest z.rest)) (orders_in list) c.self.invariant.distinct);
    }

pub returns-clause-list : goal.returns-clause-list
returns-clause-list c =
    let list = c.self.inside.shelves.list in
    let y = c.args.x.now in
    let at = in_list y (orders_in list) (subst (λ (l : OrderList). Stands l.list y) (sym c.self.view_is) c.requires) in
    let alike = kept_alike y list c.self.invariant.distinct c.once.ensures at in
    let now = c.remove.ensures.list ∙ ap (λ (n : ℕ). filter (λ (k : Kept). not (is_named n k)) list) c.name_of.ensures in
    ap orders_in now
    ∙ filter_shown (is_named y.id) (λ z. same_name y.rest z.rest) list alike
    ∙ ap (λ (l : OrderList). without y.rest l.list) c.self.view_is
