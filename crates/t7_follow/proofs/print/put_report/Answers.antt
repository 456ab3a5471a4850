use Rattle.std.proofs.Common.{rules, ◌≡◌, ◌∷◌, [], Ok, Err, map}
use Rattle.t7_mbook.specs.Walk.{walk_rest}
use Rattle.t7_outcome.specs.declared.ending.Stop.TheVariants.{WriteFault}
use Rattle.t7_outcome.proofs.Printing.{printed_both, printed_first}
use Rattle.t7_script.specs.Lines.{order_line}
use Rattle.t7_follow.specs.Lines.{state_line}
use Rattle.t7_follow.proofs.print.put_report.Goals as goal

pub returns-in_err-put_line-clause-printed : goal.returns-in_err-put_line-clause-printed
returns-in_err-put_line-clause-printed g c =
    let is : c.put_line.result ≡ Err WriteFault = search rules in
    let ended : c.from_residual.result ≡ Err WriteFault = search rules in
    let line : c.state_line.result ≡ state_line c.args.state.now = search rules in
    printed_first _ _ (state_line c.args.state.now ∷ []) (map order_line (walk_rest c.args.orders)) c.put_line.result WriteFault c.from_residual.result is ended
    (rw line at c.put_line.ensures.printed)

pub returns-clause-printed : goal.returns-clause-printed
returns-clause-printed g c =
    let is : c.put_line.result ≡ Ok c.in_ok-put_line.field-0 = search rules in
    let line : c.state_line.result ≡ state_line c.args.state.now = search rules in
    printed_both _ _ _ (state_line c.args.state.now ∷ []) (map order_line (walk_rest c.args.orders)) c.put_line.result _ c.put_orders.result is
    (rw line at c.put_line.ensures.printed) c.put_orders.ensures.printed
