use Rattle.std.proofs.Common.{◌≡◌, ◌++◌, drop}
use Rattle.t7_book.specs.Steps.{cleared}
use Rattle.t7_linear.proofs.removal.cleared.Given as goal

abbrev pub invariant-loop-session : goal.invariant-loop-session
invariant-loop-session l = l.told.items ++ cleared (drop l.session-index l.sessions) l.security l.orders ≡ cleared l.sessions l.security l.orders
