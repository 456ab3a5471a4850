use Rattle.std.proofs.Common.{◌≡◌, ◌≤◌, ◌++◌, drop}
use Rattle.t7_book.specs.Trades.{fills}
use Rattle.t7_linear.proofs.trade.fills.Given as goal

abbrev pub invariant-loop-t : goal.invariant-loop-t
invariant-loop-t l = (l.notes.items ++ fills (drop l.t-index l.trades) l.total l.left ≡ fills l.trades l.total l.fn.before) × (l.left ≤ 1_000_000_000_000_000)
