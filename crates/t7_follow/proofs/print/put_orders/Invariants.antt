use Rattle.std.proofs.Common.{◌≤◌, map}
use Rattle.t7_base.specs.Outside.{Grew}
use Rattle.t7_mbook.specs.Walk.{walk_rest}
use Rattle.t7_outcome.proofs.Printing.{DoneSo}
use Rattle.t7_script.specs.Lines.{order_line}
use Rattle.t7_follow.proofs.print.put_orders.Given as goal

abbrev pub invariant-loop-order : goal.invariant-loop-order
invariant-loop-order g l = record {
  so : Grew (g.S.Sink.written l.initial.sink) (g.S.Sink.written l.sink) (DoneSo (map order_line (walk_rest l.order-iterator)) (map order_line (walk_rest l.fn.orders)));
  count : g.S.Sink.faults l.initial.sink ≤ g.S.Sink.faults l.sink;
}
