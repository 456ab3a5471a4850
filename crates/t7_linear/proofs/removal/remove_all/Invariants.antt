use Rattle.std.proofs.Common.{◌≡◌, drop}
use Rattle.t7_book.specs.Steps.{list_after, deletions}
use Rattle.t7_linear.proofs.removal.remove_all.Given as goal

abbrev pub invariant-loop-y : goal.invariant-loop-y
invariant-loop-y l = list_after (deletions (drop l.y-index l.gone) l.orders) l.orders ≡ list_after (deletions l.gone l.fn.orders) l.fn.orders
