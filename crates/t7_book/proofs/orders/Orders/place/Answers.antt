use Rattle.std.proofs.Common.{◌≡◌, ◌≢◌, ◌+◌, get_or, ◌<◌, ℕ, true, List, length, sym, ap, subst, ◌∙◌, arith}
use Rattle.std.proofs.lemmas.List.{length-map}
use Rattle.t7_levels.specs.Chain as chain
use Rattle.t7_levels.specs.Ladder.{goes}
use Rattle.t7_book.specs.declared.kept.Kept.{Kept}
use Rattle.t7_book.specs.Orders.{goes_before, with_order}
use Rattle.t7_book.specs.Laws.{Each, Distinct, IsInOrder}
use Rattle.t7_book.specs.Numbers.{is_listed}
use Rattle.t7_book.specs.Kept.{IsNumbered, OrderList, orders_in}
use Rattle.t7_book.proofs.InOrder.{in_order_placed}
use Rattle.t7_book.proofs.Lists.{distinct_placed}
use Rattle.t7_book.proofs.Numbered.{each_level, length_level, number_fits, numbered, orders_alike, placed_shown, ranked, stamped}
use Rattle.t7_book.proofs.Ids.{new_found}
use Rattle.std.proofs.lemmas.List.{length-set}
use Rattle.t7_book.proofs.Counting.{count_placed, counted_up, few_counted}
use Rattle.t7_book.proofs.Numbered.{rank_fits}
use Rattle.t7_book.specs.Kept.{AreCounted, count_at, is_ranked}
use Rattle.t7_book.proofs.orders.Orders.place.Goals as goal

pub listed_number-number-requires : goal.listed_number-number-requires
listed_number-number-requires c = ap (λ (l : OrderList). is_listed l.securities c.args.x.now.rest.security) c.self.view_is ∙ c.requires.listed

pub place-requires-clause-side : goal.place-requires-clause-side
place-requires-clause-side c =
    let S = c.self.inside.sides in
    let x = c.args.x.now in
    let listed : is_listed S x.rest.security ≡ true = ap (λ (l : OrderList). is_listed l.securities x.rest.security) c.self.view_is ∙ c.requires.listed in
    omega (arith, c.listed_number-number.ensures, number_fits S x.rest.security x.rest.side listed, c.self.invariant.sides)

pub place-requires-clause-room : goal.place-requires-clause-room
place-requires-clause-room c = omega (arith, sym (length-map c.self.inside.shelves.list (λ (k : Kept). k.order)) ∙ ap (λ (l : OrderList). length l.list) c.self.view_is, c.requires.room)

pub place-requires-clause-new : goal.place-requires-clause-new
place-requires-clause-new c =
    new_found c.args.x.now.id c.self.inside.shelves.list (subst (λ (l : OrderList). Each (λ y. y.id ≢ c.args.x.now.id) l.list) (sym c.self.view_is) c.requires.new_id)

pub listed_rank-rank-requires : goal.listed_rank-rank-requires
listed_rank-rank-requires c = ap (λ (l : OrderList). is_listed l.securities c.args.x.now.rest.security) c.self.view_is ∙ c.requires.listed

pub count_up-requires-clause-within : goal.count_up-requires-clause-within
count_up-requires-clause-within c =
    let S = c.self.inside.sides in
    let x = c.args.x.now in
    let listed : is_listed S x.rest.security ≡ true = ap (λ (l : OrderList). is_listed l.securities x.rest.security) c.self.view_is ∙ c.requires.listed in
    omega (arith, c.listed_rank-rank.ensures, rank_fits S x.rest.security listed, c.self.invariant.places)

pub count_up-requires-clause-few : goal.count_up-requires-clause-few
count_up-requires-clause-few c =
    let S = c.self.inside.sides in
    let list = c.self.inside.shelves.list in
    let x = c.args.x.now in
    let listed : is_listed S x.rest.security ≡ true = ap (λ (l : OrderList). is_listed l.securities x.rest.security) c.self.view_is ∙ c.requires.listed in
    let within : c.listed_rank-rank.result < length S = omega (arith, c.listed_rank-rank.ensures, rank_fits S x.rest.security listed) in
    let few = few_counted S c.self.inside.counts.items (orders_in list) c.listed_rank-rank.result c.self.invariant.counted within in
    omega (arith, few, ap (λ (l : OrderList). length l.list) c.self.view_is, c.requires.room)

pub invariant_of-self : goal.invariant_of-self
invariant_of-self c =
    let S = c.self.inside.sides in
    let list = c.self.inside.shelves.list in
    let x = c.args.x.now in
    let listed : is_listed S x.rest.security ≡ true = ap (λ (l : OrderList). is_listed l.securities x.rest.security) c.self.view_is ∙ c.requires.listed in
    let new = subst (λ (l : OrderList). Each (λ y. y.rest.stamp ≢ x.rest.stamp) l.list) (sym c.self.view_is) c.requires.new_stamp in
    let v : Kept = record { number = c.listed_number-number.result; order = x } in
    let at : IsNumbered S v = record { listed = listed; number = c.listed_number-number.ensures } in
    let few : length list < 20_000 = omega (arith, sym (length-map list (λ (k : Kept). k.order)) ∙ ap (λ (l : OrderList). length l.list) c.self.view_is, c.requires.room) in
    let shown = ap orders_in c.place.ensures.list ∙ placed_shown (goes numbered ranked stamped) (λ y z. goes_before S y.rest z.rest) v list (orders_alike S v list at c.self.invariant.numbered) in
    record {
      places = omega (arith, ap length c.count_up.ensures, length-set c.self.inside.counts.items c.listed_rank-rank.result (get_or c.self.inside.counts.items c.listed_rank-rank.result 0 + 1), c.self.invariant.places);
      counted = subst (λ (n : List ℕ). AreCounted S n (orders_in c.place.new.self.list)) (sym c.count_up.ensures)
          (counted_up S c.self.inside.counts.items (orders_in list) (orders_in c.place.new.self.list) x c.listed_rank-rank.result c.self.invariant.counted c.self.invariant.places c.listed_rank-rank.ensures
          (λ i. ap (count_at S i) shown ∙ count_placed (is_ranked S i) (λ y z. goes_before S y.rest z.rest) x (orders_in list)));
      sides = c.place.ensures.sides ∙ c.self.invariant.sides;
      numbered = subst (chain.Each (IsNumbered S)) (sym c.place.ensures.list) (each_level (IsNumbered S) (goes numbered ranked stamped) v list at c.self.invariant.numbered);
      few = omega (arith, few, ap length c.place.ensures.list, length_level (goes numbered ranked stamped) v list);
      in_order = subst (IsInOrder S) (sym shown) (in_order_placed S x (orders_in list) new c.self.invariant.in_order);
      distinct = subst Distinct (sym shown) (distinct_placed (λ y z. goes_before S y.rest z.rest) x (orders_in list) new c.self.invariant.distinct);
    }

pub returns-clause-list : goal.returns-clause-list
returns-clause-list c =
    let S = c.self.inside.sides in
    let list = c.self.inside.shelves.list in
    let x = c.args.x.now in
    let listed : is_listed S x.rest.security ≡ true = ap (λ (l : OrderList). is_listed l.securities x.rest.security) c.self.view_is ∙ c.requires.listed in
    let v : Kept = record { number = c.listed_number-number.result; order = x } in
    let at : IsNumbered S v = record { listed = listed; number = c.listed_number-number.ensures } in
    ap orders_in c.place.ensures.list
    ∙ placed_shown (goes numbered ranked stamped) (λ y z. goes_before S y.rest z.rest) v list (orders_alike S v list at c.self.invariant.numbered)
    ∙ ap (λ (l : OrderList). with_order l.securities x l.list) c.self.view_is
