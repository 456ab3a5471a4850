use Rattle.std.proofs.Common.{◌≡◌, ◌+◌, ◌<◌, ◌∷◌, List, length, arith, drop, get_or, refl, sym, ap, subst, ◌∙◌, add-one, drop-cons}
use Rattle.std.specs.List.{filter}
use Rattle.t7_book.specs.declared.order.Order.{Order}
use Rattle.t7_book.specs.Steps.{list_after, deletions}
use Rattle.t7_book.proofs.Lists.{IsIn, distinct_filter, each_filter, stands}
use Rattle.t7_book.proofs.Makers.{each_in}
use Rattle.t7_book.proofs.Running.{AreGone, gone_after, gone_from}
use Rattle.t7_book.proofs.removal.remove_all.Goals as goal

pub loop-y-init : goal.loop-y-init
loop-y-init c =
    let list = c.args.orders.now.list in
    let p = c.requires.0 in
    record {
      list = refl;
      gone = subst (λ (ys : List Order). AreGone ys list) (sym c.requires.1) (gone_from (filter p list) list (distinct_filter p list c.apart.ensures.stamps) (each_filter p (λ y. IsIn y list) list (each_in list)));
      distinct = c.apart.ensures.stamps;
      securities = refl;
    }

pub remove-requires : goal.remove-requires
remove-requires c =
    let xs = c.args.gone.now in
    let i = c.loop-y.y-index in
    let y : Order = c.y-item.result in
    let list = c.loop-y.orders.list in
    let lt : i < length xs = omega arith in
    let first : drop i xs ≡ get_or xs i y ∷ drop (i + 1) xs = rw (add-one, drop-cons xs i y) refl in
    let here : drop i xs ≡ y ∷ drop (i + 1) xs = first ∙ ap (λ (u : Order). u ∷ drop (i + 1) xs) (sym c.y-item.is) in
    let gone = subst (λ (ys : List Order). AreGone ys list) here c.loop-y.invariant.gone in
    stands y list c.loop-y.invariant.distinct gone.0

pub loop-y-preserved : goal.loop-y-preserved
loop-y-preserved c =
    let xs = c.args.gone.now in
    let i = c.loop-y.y-index in
    let y : Order = c.y-item.result in
    let list = c.loop-y.orders.list in
    let lt : i < length xs = omega arith in
    let first : drop i xs ≡ get_or xs i y ∷ drop (i + 1) xs = rw (add-one, drop-cons xs i y) refl in
    let here : drop i xs ≡ y ∷ drop (i + 1) xs = first ∙ ap (λ (u : Order). u ∷ drop (i + 1) xs) (sym c.y-item.is) in
    let gone = subst (λ (ys : List Order). AreGone ys list) here c.loop-y.invariant.gone in
    record {
      list = ap (λ (us : List Order). list_after (deletions (drop (i + 1) xs) us) us) c.remove.ensures.list ∙ sym (ap (λ (ys : List Order). list_after (deletions ys list) list) here) ∙ c.loop-y.invariant.list;
      gone = subst (AreGone (drop (i + 1) xs)) (sym c.remove.ensures.list) (gone_after y (drop (i + 1) xs) list gone.1 gone.2);
      distinct = c.apart-in-loop-y.ensures.stamps;
      securities = c.remove.ensures.securities ∙ c.loop-y.invariant.securities;
    }
