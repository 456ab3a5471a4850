use Rattle.std.proofs.Common.{◌<◌, ℕ, length, sym, ap, ◌∙◌, arith}
use Rattle.std.specs.List.{filter}
use Rattle.std.proofs.lemmas.List.{length-map}
use Rattle.t7_book.specs.declared.kept.Kept.{Kept}
use Rattle.t7_book.specs.Orders.{is_in, rank_of}
use Rattle.t7_book.specs.Numbers.{is_listed}
use Rattle.t7_book.specs.Kept.{OrderList, count_at, orders_in}
use Rattle.t7_book.proofs.Counting.{few_counted, none_count, rank_count}
use Rattle.t7_book.proofs.Kepts.{listed_each}
use Rattle.t7_book.proofs.Numbered.{listed_is, rank_fits, unlisted_is}
use Rattle.t7_book.proofs.orders.Orders.count_in.Goals as goal

pub returns-in-None-clause-value : goal.returns-in-None-clause-value
returns-in-None-clause-value c =
    let S = c.self.inside.sides in
    let list = c.self.inside.shelves.list in
    let unlisted = unlisted_is (is_listed S c.args.security) (rank_of S c.args.security) (sym c.rank.ensures ∙ c.in-None.is) in
    sym (none_count S c.args.security (orders_in list) unlisted (listed_each S list c.self.invariant.numbered)) ∙ ap (λ (l : OrderList). length (filter (is_in c.args.security) l.list)) c.self.view_is

pub counted-requires : goal.counted-requires
counted-requires c =
    let S = c.self.inside.sides in
    let e = listed_is (is_listed S c.args.security) (rank_of S c.args.security) c.in-Some.rank (sym c.rank.ensures ∙ c.in-Some.is) in
    omega (arith, e.1, rank_fits S c.args.security e.0, c.self.invariant.places)

pub returns-in-Some-clause-value : goal.returns-in-Some-clause-value
returns-in-Some-clause-value c =
    let S = c.self.inside.sides in
    let list = c.self.inside.shelves.list in
    let e = listed_is (is_listed S c.args.security) (rank_of S c.args.security) c.in-Some.rank (sym c.rank.ensures ∙ c.in-Some.is) in
    let within : c.in-Some.rank < length S = omega (arith, e.1, rank_fits S c.args.security e.0) in
    c.counted.ensures
    ∙ c.self.invariant.counted c.in-Some.rank within
    ∙ ap (λ (i : ℕ). count_at S i (orders_in list)) e.1
    ∙ rank_count S c.args.security (orders_in list) e.0 (listed_each S list c.self.invariant.numbered)
    ∙ ap (λ (l : OrderList). length (filter (is_in c.args.security) l.list)) c.self.view_is

pub returns-in-Some-clause-within : goal.returns-in-Some-clause-within
returns-in-Some-clause-within c =
    let S = c.self.inside.sides in
    let list = c.self.inside.shelves.list in
    let counts = c.self.inside.counts.items in
    let e = listed_is (is_listed S c.args.security) (rank_of S c.args.security) c.in-Some.rank (sym c.rank.ensures ∙ c.in-Some.is) in
    let within : c.in-Some.rank < length S = omega (arith, e.1, rank_fits S c.args.security e.0) in
    let le = few_counted S counts (orders_in list) c.in-Some.rank c.self.invariant.counted within in
    let few = c.self.invariant.few in
    let long = length-map list (λ (k : Kept). k.order) in
    omega (arith, c.counted.ensures, le, few, long)
