use Rattle.std.proofs.Common.{◌≡◌, ◌<◌, ◌≤◌, ◌+◌, drop}
use Rattle.t7_book.specs.Trades.{traded}
use Rattle.t7_linear.proofs.trade.sum_of.Given as goal

abbrev pub invariant-loop-t : goal.invariant-loop-t
invariant-loop-t l = (l.sum + traded (drop l.t-index l.trades) ≡ traded l.trades) × (0 < l.t-index → 1 ≤ l.sum)
