use Rattle.std.proofs.Common.{rules, ◌≡◌, ◌+◌, ◌∷◌, [], Ok, Err, drop, arith}
use Rattle.t7_outcome.specs.declared.ending.Stop.TheVariants.{WriteFault}
use Rattle.t7_outcome.proofs.Printing.{done_more, done_stopped}
use Rattle.t7_script.specs.Lines.{kept_line}
use Rattle.t7_report.specs.Gathered.{numbered_lines}
use Rattle.t7_report.proofs.Numbering.{lines_from}
use Rattle.t7_report.proofs.gathered.put_responses.Goals as goal

pub returns-in_err-put_response-clause-printed : goal.returns-in_err-put_response-clause-printed
returns-in_err-put_response-clause-printed g c =
    let is : c.put_response.result ≡ Err WriteFault = search rules in
    let ended : c.from_residual.result ≡ Err WriteFault = search rules in
    let here = c.args.responses.now in
    let number = c.loop-what.number in
    let place = c.loop-what.what-index in
    done_stopped _ _ _ (numbered_lines number (drop place here)) (numbered_lines (number + 1) (drop (place + 1) here)) (numbered_lines 1 here)
    (kept_line number c.what-item.result ∷ []) c.put_response.result c.from_residual.result WriteFault
    (lines_from here place number c.what-item.result (omega arith) c.what-item.is) is ended
    c.loop-what.invariant.so c.put_response.ensures.printed

pub loop-what-preserved : goal.loop-what-preserved
loop-what-preserved g c =
    let is : c.put_response.result ≡ Ok c.in_ok-put_response.field-0 = search rules in
    let here = c.args.responses.now in
    let number = c.loop-what.number in
    let place = c.loop-what.what-index in
    record {
      so = done_more _ _ _ (numbered_lines number (drop place here)) (numbered_lines (number + 1) (drop (place + 1) here)) (numbered_lines 1 here)
          (kept_line number c.what-item.result ∷ []) c.put_response.result c.in_ok-put_response.field-0
          (lines_from here place number c.what-item.result (omega arith) c.what-item.is) is c.loop-what.invariant.so c.put_response.ensures.printed;
      number = omega arith;
      count = omega arith;
    }
