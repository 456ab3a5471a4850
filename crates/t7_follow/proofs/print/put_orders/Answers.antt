use Rattle.std.proofs.Common.{rules, ◌≡◌, ◌∷◌, [], Result, Ok, Err, refl, ap, map, arith}
use Rattle.t7_mbook.specs.Walk.{walk_rest}
use Rattle.t7_outcome.specs.declared.ending.Stop.{Stop}
use Rattle.t7_outcome.specs.declared.ending.Stop.TheVariants.{WriteFault}
use Rattle.t7_outcome.proofs.Printing.{done_all, done_more, done_none, done_stopped}
use Rattle.t7_script.specs.Lines.{order_line}
use Rattle.t7_follow.proofs.print.put_orders.Goals as goal

pub loop-order-init : goal.loop-order-init
loop-order-init g c =
    let is : c.into_iter-order-iterator.result ≡ c.args.orders = search rules in
    record { so = rw is (done_none _ (map order_line (walk_rest c.args.orders))); count = omega arith }

pub returns-in_err-put_order-clause-printed : goal.returns-in_err-put_order-clause-printed
returns-in_err-put_order-clause-printed g c =
    let is : c.put_order.result ≡ Err WriteFault = search rules in
    let ended : c.from_residual.result ≡ Err WriteFault = search rules in
    let first : walk_rest c.loop-order.order-iterator ≡ c.in-Some.order ∷ walk_rest c.next.new.self = search rules in
    done_stopped _ _ _ (map order_line (walk_rest c.loop-order.order-iterator)) (map order_line (walk_rest c.next.new.self)) (map order_line (walk_rest c.args.orders))
    (order_line c.in-Some.order ∷ []) c.put_order.result c.from_residual.result WriteFault (ap (map order_line) first) is ended
    c.loop-order.invariant.so c.put_order.ensures.printed

pub loop-order-preserved : goal.loop-order-preserved
loop-order-preserved g c =
    let is : c.put_order.result ≡ Ok c.in_ok-put_order.field-0 = search rules in
    let first : walk_rest c.loop-order.order-iterator ≡ c.in-Some.order ∷ walk_rest c.next.new.self = search rules in
    record {
      so = done_more _ _ _ (map order_line (walk_rest c.loop-order.order-iterator)) (map order_line (walk_rest c.next.new.self)) (map order_line (walk_rest c.args.orders))
          (order_line c.in-Some.order ∷ []) c.put_order.result c.in_ok-put_order.field-0 (ap (map order_line) first) is c.loop-order.invariant.so c.put_order.ensures.printed;
      count = omega arith;
    }

pub returns-clause-printed : goal.returns-clause-printed
returns-clause-printed g c =
    let none : walk_rest c.loop-order.order-iterator ≡ [] = search rules in
    done_all _ _ (map order_line (walk_rest c.loop-order.order-iterator)) (map order_line (walk_rest c.args.orders)) (let done : Result (Unit {0}) Stop = Ok tt in done) tt (ap (map order_line) none) refl
    c.loop-order.invariant.so
