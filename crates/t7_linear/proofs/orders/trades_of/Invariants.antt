use Rattle.std.proofs.Common.{◌≡◌, ◌++◌, drop}
use Rattle.std.specs.Prelude.{unwrap_or}
use Rattle.std.specs.List.{filter}
use Rattle.t7_book.specs.Trades.{trades, taken, crosses}
use Rattle.t7_linear.proofs.orders.trades_of.Given as goal

-- the trades so far, and those with the orders that are left
abbrev pub invariant-loop-y : goal.invariant-loop-y
invariant-loop-y l = l.found.items ++ taken (filter (λ y. crosses l.x y.rest) (drop l.y-index l.orders)) (unwrap_or l.left 0) ≡ trades l.x l.orders
