use Rattle.std.proofs.Common.{◌≡◌, ◌++◌}
use Rattle.std.specs.Prelude.{unwrap_or}
use Rattle.std.specs.List.{filter}
use Rattle.t7_book.specs.Kept.{EndsAtFirst}
use Rattle.t7_book.specs.Trades.{trades, taken, crosses}
use Rattle.t7_book.specs.Walk.{walk_rest}
use Rattle.t7_book.proofs.orders.trades_of.Given as goal

-- the trades so far, and those with the orders that are left
abbrev pub invariant-loop-y : goal.invariant-loop-y
invariant-loop-y l = record {
  all : l.found.items ++ taken (filter (λ y. crosses l.x y.rest) (walk_rest l.y-iterator)) (unwrap_or l.left 0) ≡ trades l.x (walk_rest l.fn.others);
  ends : EndsAtFirst (λ y. crosses l.x y.rest) (walk_rest l.y-iterator);
}
