use Rattle.std.proofs.Common.{◌≡◌, ◌+◌, ◌<◌, ◌∷◌, List, length, arith, drop, get_or, refl, sym, ap, subst, ◌∙◌, add-one, drop-cons}
use Rattle.t7_book.specs.declared.trade.Trade.{Trade}
use Rattle.t7_book.specs.Trades.{after_trades}
use Rattle.t7_book.proofs.Lists.{stands}
use Rattle.t7_book.proofs.Makers.{AreMakers, makers_after, trades_makers}
use Rattle.t7_book.proofs.trade.carry_out.Goals as goal

pub loop-t-init : goal.loop-t-init
loop-t-init c = record {
  list = refl;
  makers = subst (λ (ts : List Trade). AreMakers ts c.args.orders.now.list) (sym c.requires.1) (trades_makers c.requires.0 c.args.orders.now.list c.apart.ensures.stamps);
  distinct = c.apart.ensures.stamps;
  securities = refl;
}

pub carry_out_one-requires : goal.carry_out_one-requires
carry_out_one-requires c =
    let xs = c.args.made.now in
    let i = c.loop-t.t-index in
    let t : Trade = c.t-item.result in
    let list = c.loop-t.orders.list in
    let lt : i < length xs = omega arith in
    let first : drop i xs ≡ get_or xs i t ∷ drop (i + 1) xs = rw (add-one, drop-cons xs i t) refl in
    let here : drop i xs ≡ t ∷ drop (i + 1) xs = first ∙ ap (λ (u : Trade). u ∷ drop (i + 1) xs) (sym c.t-item.is) in
    let makers = subst (λ (ts : List Trade). AreMakers ts list) here c.loop-t.invariant.makers in
    stands t.maker list c.loop-t.invariant.distinct makers.0

pub loop-t-preserved : goal.loop-t-preserved
loop-t-preserved c =
    let xs = c.args.made.now in
    let i = c.loop-t.t-index in
    let t : Trade = c.t-item.result in
    let list = c.loop-t.orders.list in
    let lt : i < length xs = omega arith in
    let first : drop i xs ≡ get_or xs i t ∷ drop (i + 1) xs = rw (add-one, drop-cons xs i t) refl in
    let here : drop i xs ≡ t ∷ drop (i + 1) xs = first ∙ ap (λ (u : Trade). u ∷ drop (i + 1) xs) (sym c.t-item.is) in
    let makers = subst (λ (ts : List Trade). AreMakers ts list) here c.loop-t.invariant.makers in
    record {
      list = ap (after_trades (drop (i + 1) xs)) c.carry_out_one.ensures.list ∙ sym (ap (λ (ts : List Trade). after_trades ts list) here) ∙ c.loop-t.invariant.list;
      makers = subst (AreMakers (drop (i + 1) xs)) (sym c.carry_out_one.ensures.list) (makers_after t (drop (i + 1) xs) list makers.2 makers.3);
      distinct = c.apart-in-loop-t.ensures.stamps;
      securities = c.carry_out_one.ensures.securities ∙ c.loop-t.invariant.securities;
    }
