use Rattle.std.proofs.Common.{◌≡◌, drop}
use Rattle.t7_book.specs.Laws.{Distinct}
use Rattle.t7_book.specs.Trades.{after_trades}
use Rattle.t7_book.proofs.Makers.{AreMakers}
use Rattle.t7_book.proofs.trade.carry_out.Given as goal

abbrev pub invariant-loop-t : goal.invariant-loop-t
invariant-loop-t l = record {
  list : after_trades (drop l.t-index l.made) l.orders.list ≡ after_trades l.made l.fn.orders.list;
  makers : AreMakers (drop l.t-index l.made) l.orders.list;
  distinct : Distinct l.orders.list;
  securities : l.orders.securities ≡ l.fn.orders.securities;
}
