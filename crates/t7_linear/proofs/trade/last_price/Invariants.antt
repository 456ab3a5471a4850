use Rattle.std.proofs.Common.{◌≡◌, drop}
use Rattle.t7_book.specs.Trades.{last_price}
use Rattle.t7_linear.proofs.trade.last_price.Given as goal

abbrev pub invariant-loop-t : goal.invariant-loop-t
invariant-loop-t l = last_price l.last (drop l.t-index l.trades) ≡ last_price l.fn.price l.trades
