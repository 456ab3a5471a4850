use Rattle.std.proofs.Common.{◌≡◌, ◌++◌, ◌∷◌, [], List, false, arith, rules, ap, sym, subst, ◌∙◌, append-nil}
use Rattle.std.specs.Prelude.{unwrap_or}
use Rattle.std.specs.List.{filter}
use Rattle.std.proofs.lemmas.Grind.{common_steps}
use Rattle.t7_book.specs.declared.order.Order.{Order}
use Rattle.t7_book.specs.declared.orders.BookWalk.{BookWalk}
use Rattle.t7_book.specs.declared.trade.Trade.{Trade}
use Rattle.t7_book.specs.Kept.{EndsAtFirst}
use Rattle.t7_book.specs.Trades.{trades, taken, crosses}
use Rattle.t7_book.specs.Walk.{walk_rest}
use Rattle.t7_book.proofs.Ends.{ended}
use Rattle.t7_book.proofs.TradeLemmas.{taken-zero, traded_taken}
use Rattle.t7_book.proofs.orders.trades_of.Goals as goal

pub loop-y-init : goal.loop-y-init
loop-y-init c =
    let is : c.into_iter-y-iterator.result ≡ c.args.others = search rules in
    let empty : c.new-found.result.items ≡ [] = search rules in
    record {
      all = ap (λ (fs : List Trade). fs ++ trades c.args.x.now (walk_rest c.into_iter-y-iterator.result)) empty ∙ ap (λ (w : BookWalk). trades c.args.x.now (walk_rest w)) is;
      ends = subst (λ (w : BookWalk). EndsAtFirst (λ y. crosses c.args.x.now y.rest) (walk_rest w)) (sym is) c.requires;
    }

pub returns-in_default-clause-trades : goal.returns-in_default-clause-trades
returns-in_default-clause-trades c = let a = c.in_default.is in let b = c.in_default.not-Some in let i = c.loop-y.invariant.all in grind (arith, common_steps, taken-zero)

pub returns-in_default-clause-within : goal.returns-in_default-clause-within
returns-in_default-clause-within c = rw (returns-in_default-clause-trades c) (traded_taken _ _)

pub returns-then-not-crosses-clause-trades : goal.returns-then-not-crosses-clause-trades
returns-then-not-crosses-clause-trades c =
    let x = c.args.x.now in
    let first : walk_rest c.loop-y.y-iterator ≡ c.in-Some.y.now ∷ walk_rest c.next.new.self = search rules in
    let fails : crosses x c.in-Some.y.now.rest ≡ false = search rules in
    ended (λ y. crosses x y.rest) c.loop-y.found.items (trades x (walk_rest c.args.others)) (walk_rest c.loop-y.y-iterator) c.in-Some.y.now (walk_rest c.next.new.self) (unwrap_or c.loop-y.left 0)
    c.loop-y.invariant.all first fails c.loop-y.invariant.ends

pub returns-then-not-crosses-clause-within : goal.returns-then-not-crosses-clause-within
returns-then-not-crosses-clause-within c = rw (returns-then-not-crosses-clause-trades c) (traded_taken _ _)

pub returns-clause-within : goal.returns-clause-within
returns-clause-within c =
    let x = c.args.x.now in
    let none : walk_rest c.loop-y.y-iterator ≡ [] = search rules in
    let found = c.loop-y.found.items in
    let all : found ≡ trades x (walk_rest c.args.others) =
    sym (append-nil found) ∙ ap (λ (ys : List Order). found ++ taken (filter (λ y. crosses x y.rest) ys) (unwrap_or c.loop-y.left 0)) (sym none) ∙ c.loop-y.invariant.all in
    rw all (traded_taken _ _)
