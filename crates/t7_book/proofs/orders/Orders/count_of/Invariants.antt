use Rattle.std.proofs.Common.{◌≡◌, ◌+◌, ◌≤◌, length}
use Rattle.std.specs.List.{filter}
use Rattle.t7_book.specs.Orders.{is_of}
use Rattle.t7_book.specs.Walk.{walk_rest}
use Rattle.t7_book.proofs.orders.Orders.count_of.Given as goal

abbrev pub invariant-loop-y : goal.invariant-loop-y
invariant-loop-y l = record {
  counted : l.count + length (filter (is_of l.session l.security) (walk_rest l.y-iterator)) ≡ length (filter (is_of l.session l.security) l.self.list);
  few : length (filter (is_of l.session l.security) l.self.list) ≤ 20_000;
}
