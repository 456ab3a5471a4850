use Rattle.std.proofs.Common.{◌≡◌, ◌≤◌, drop, length}
use Rattle.t7_book.specs.Trades.{after_trades}
use Rattle.t7_linear.proofs.trade.carry_out.Given as goal

abbrev pub invariant-loop-t : goal.invariant-loop-t
invariant-loop-t l = record {
  items : after_trades (drop l.t-index l.trades) l.orders ≡ after_trades l.trades l.fn.orders;
  fewer : length l.orders ≤ length l.fn.orders;
}
