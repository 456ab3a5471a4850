use Rattle.std.proofs.Common.{◌≡◌, ◌++◌, map}
use Rattle.t7_mbook.specs.Walk.{walk_rest}
use Rattle.t7_outcome.specs.Outcome.{text_of}
use Rattle.t7_script.specs.Lines.{order_line}
use Rattle.t7_replay.proofs.report.put_orders.Given as goal

abbrev pub invariant-loop-order : goal.invariant-loop-order
invariant-loop-order l =
    l.text.items ++ text_of (map order_line (walk_rest l.order-iterator)) ≡ l.initial.text.items ++ text_of (map order_line (walk_rest l.fn.orders))
