use Rattle.std.proofs.Common.{◌≡◌, not, length}
use Rattle.std.specs.List.{filter}
use Rattle.t7_book.specs.Kept.{is_on}
use Rattle.t7_book.specs.Laws.{Distinct}
use Rattle.t7_book.proofs.orders.Orders.remove_side.Given as goal

abbrev pub invariant-loop-first : goal.invariant-loop-first
invariant-loop-first l = record {
  list : filter (λ y. not (is_on l.security l.side y)) l.self.list ≡ filter (λ y. not (is_on l.security l.side y)) l.initial.self.list;
  securities : l.self.securities ≡ l.initial.self.securities;
  distinct : Distinct l.self.list;
}

abbrev pub decreases-loop-first : goal.decreases-loop-first
decreases-loop-first l = length l.self.list
