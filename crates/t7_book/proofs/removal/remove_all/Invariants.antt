use Rattle.std.proofs.Common.{◌≡◌, drop}
use Rattle.t7_book.specs.Laws.{Distinct}
use Rattle.t7_book.specs.Steps.{list_after, deletions}
use Rattle.t7_book.proofs.Running.{AreGone}
use Rattle.t7_book.proofs.removal.remove_all.Given as goal

abbrev pub invariant-loop-y : goal.invariant-loop-y
invariant-loop-y l = record {
  list : list_after (deletions (drop l.y-index l.gone) l.orders.list) l.orders.list ≡ list_after (deletions l.gone l.fn.orders.list) l.fn.orders.list;
  gone : AreGone (drop l.y-index l.gone) l.orders.list;
  distinct : Distinct l.orders.list;
  securities : l.orders.securities ≡ l.fn.orders.securities;
}
