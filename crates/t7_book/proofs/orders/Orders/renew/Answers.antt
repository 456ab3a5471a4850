use Rattle.std.proofs.Common.{◌≡◌, true, length, sym, ap, subst, ◌∙◌, arith}
use Rattle.std.specs.Prelude.{◌==◌}
use Rattle.std.specs.Ordering.{nat_cmp}
use Rattle.std.proofs.lemmas.List.{length-map}
use Rattle.t7_base.specs.declared.public.Resting.{Resting}
use Rattle.t7_levels.specs.Chain as chain
use Rattle.t7_levels.specs.Index as index
use Rattle.t7_book.specs.declared.kept.Kept.{Kept}
use Rattle.t7_book.specs.Orders.{renewed, same_name}
use Rattle.t7_book.specs.Laws.{Distinct, IsInOrder}
use Rattle.t7_book.specs.Numbers.{is_listed}
use Rattle.t7_book.specs.Kept.{IsNumbered, OrderList, Stands, orders_in}
use Rattle.t7_book.proofs.InOrder.{in_order_renewed}
use Rattle.t7_book.proofs.Lists.{distinct_renewed, each_at, only_named}
use Rattle.t7_book.proofs.Numbered.{named}
use Rattle.t7_book.proofs.Ids.{in_list, kept_alike}
use Rattle.t7_book.proofs.Kepts.{listed_each, renewable, requantified, renewed_alike, renewed_numbered, renewed_shown}
use Rattle.t7_book.proofs.Counting.{count_renewed, counted_same}
use Rattle.t7_book.proofs.InOrder as in_order
use Rattle.t7_book.proofs.Lists.{each_weaker}
use Rattle.t7_book.specs.Kept.{count_at, is_ranked}
use Rattle.t7_book.specs.Orders.{rank_of}
use Rattle.t7_book.proofs.orders.Orders.renew.Goals as goal

pub listed_number-number-requires : goal.listed_number-number-requires
listed_number-number-requires c =
    let S = c.self.inside.sides in
    let list = c.self.inside.shelves.list in
    let r = c.requires in
    let at = in_list r.kept (orders_in list) (subst (λ (l : OrderList). Stands l.list r.kept) (sym c.self.view_is) r.stands) in
    ap (λ (s : Resting). is_listed S s.security) r.same_rest ∙ each_at (λ y. is_listed S y.rest.security ≡ true) r.kept (orders_in list) (listed_each S list c.self.invariant.numbered) at

pub renew-requires : goal.renew-requires
renew-requires c =
    let S = c.self.inside.sides in
    let list = c.self.inside.shelves.list in
    let x = c.args.x.now in
    let r = c.requires in
    let at = in_list r.kept (orders_in list) (subst (λ (l : OrderList). Stands l.list r.kept) (sym c.self.view_is) r.stands) in
    let listed : is_listed S x.rest.security ≡ true = ap (λ (s : Resting). is_listed S s.security) r.same_rest ∙ each_at (λ y. is_listed S y.rest.security ≡ true) r.kept (orders_in list) (listed_each S list c.self.invariant.numbered) at in
    let v : Kept = record { number = c.listed_number-number.result; order = x } in
    let at_v : IsNumbered S v = record { listed = listed; number = c.listed_number-number.ensures } in
    let alike = renewed_alike x r.kept list r.same_id r.same_rest (kept_alike r.kept list c.self.invariant.distinct c.once.ensures at) in
    renewable S v r.kept at_v r.same_id r.same_rest list c.self.invariant.numbered alike (only_named r.kept (orders_in list) c.self.invariant.distinct at)

pub invariant_of-self : goal.invariant_of-self
invariant_of-self c =
    let S = c.self.inside.sides in
    let list = c.self.inside.shelves.list in
    let x = c.args.x.now in
    let r = c.requires in
    let at = in_list r.kept (orders_in list) (subst (λ (l : OrderList). Stands l.list r.kept) (sym c.self.view_is) r.stands) in
    let listed : is_listed S x.rest.security ≡ true = ap (λ (s : Resting). is_listed S s.security) r.same_rest ∙ each_at (λ y. is_listed S y.rest.security ≡ true) r.kept (orders_in list) (listed_each S list c.self.invariant.numbered) at in
    let v : Kept = record { number = c.listed_number-number.result; order = x } in
    let at_v : IsNumbered S v = record { listed = listed; number = c.listed_number-number.ensures } in
    let alike = renewed_alike x r.kept list r.same_id r.same_rest (kept_alike r.kept list c.self.invariant.distinct c.once.ensures at) in
    let only = only_named r.kept (orders_in list) c.self.invariant.distinct at in
    let shown = ap orders_in c.renew.ensures.list ∙ renewed_shown v list alike in
    let same = requantified S v r.kept at_v r.same_id r.same_rest (orders_in list) only in
    record {
      places = c.self.invariant.places;
      counted = counted_same S c.self.inside.counts.items (orders_in list) (orders_in c.renew.new.self.list) c.self.invariant.counted
          (λ i. ap (count_at S i) shown ∙ count_renewed (is_ranked S i) x (orders_in list)
          (each_weaker (in_order.Requantifies S x) (λ z. same_name x.rest z.rest ≡ true → is_ranked S i x ≡ is_ranked S i z) (λ z keeps name. ap (λ (s : Resting). rank_of S s.security == i) (keeps name)) (orders_in list) same));
      sides = c.renew.ensures.sides ∙ c.self.invariant.sides;
      numbered = subst (chain.Each (IsNumbered S)) (sym c.renew.ensures.list) (renewed_numbered S v list at_v c.self.invariant.numbered);
      few = omega (arith, ap length c.renew.ensures.list, length-map list (index.renewed named nat_cmp v), c.self.invariant.few);
      in_order = subst (IsInOrder S) (sym shown) (in_order_renewed S x (orders_in list) (requantified S v r.kept at_v r.same_id r.same_rest (orders_in list) only) c.self.invariant.in_order);
      distinct = subst Distinct (sym shown) (distinct_renewed x (orders_in list) c.self.invariant.distinct);
    }

pub returns-clause-list : goal.returns-clause-list
returns-clause-list c =
    let list = c.self.inside.shelves.list in
    let x = c.args.x.now in
    let r = c.requires in
    let at = in_list r.kept (orders_in list) (subst (λ (l : OrderList). Stands l.list r.kept) (sym c.self.view_is) r.stands) in
    let v : Kept = record { number = c.listed_number-number.result; order = x } in
    let alike = renewed_alike x r.kept list r.same_id r.same_rest (kept_alike r.kept list c.self.invariant.distinct c.once.ensures at) in
    ap orders_in c.renew.ensures.list
    ∙ renewed_shown v list alike
    ∙ ap (λ (l : OrderList). renewed x l.list) c.self.view_is
