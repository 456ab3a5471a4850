use Rattle.std.proofs.Common.{◌≡◌, ◌++◌, map, take}
use Rattle.t7_book.specs.Trades.{execution}
use Rattle.t7_linear.proofs.trade.push_executions.Given as goal

abbrev pub invariant-loop-t : goal.invariant-loop-t
invariant-loop-t l = l.out.items ≡ l.fn.out.items ++ map execution (take l.t-index l.trades)
