use Rattle.std.proofs.Common.{◌≡◌, arith}
use Rattle.std.proofs.lemmas.Grind.{common_steps}
use Rattle.t7_book.specs.Trades.{trades}
use Rattle.t7_book.proofs.TradeLemmas.{taken-zero, traded_taken}
use Rattle.t7_linear.proofs.orders.trades_of.Goals as goal

pub returns-in_default-clause-trades : goal.returns-in_default-clause-trades
returns-in_default-clause-trades c = let a = c.in_default.is in let b = c.in_default.not-Some in let i = c.loop-y.invariant in grind (arith, common_steps, taken-zero)

pub returns-in_default-clause-within : goal.returns-in_default-clause-within
returns-in_default-clause-within c = rw (returns-in_default-clause-trades c) (traded_taken _ _)

pub returns-clause-within : goal.returns-clause-within
returns-clause-within c =
    let all : c.loop-y.found.items ≡ trades c.args.x.now c.args.orders.now = grind (arith, common_steps) in
    rw all (traded_taken _ _)
