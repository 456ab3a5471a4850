use Rattle.std.proofs.Common.{rules, ◌≡◌, ◌∷◌, [], Err, length}
use Rattle.t7_outcome.specs.declared.ending.Stop.TheVariants.{WriteFault}
use Rattle.t7_outcome.proofs.Printing.{printed_first}
use Rattle.t7_report.specs.Gathered.{number_line, numbered_lines}
use Rattle.t7_report.proofs.gathered.put_gathered.Goals as goal

pub returns-in_err-put_number-clause-printed : goal.returns-in_err-put_number-clause-printed
returns-in_err-put_number-clause-printed g c =
    let is : c.put_number.result ≡ Err WriteFault = search rules in
    let ended : c.from_residual.result ≡ Err WriteFault = search rules in
    printed_first _ _ (number_line c.args.recovered (length c.args.responses.now) ∷ []) (numbered_lines 1 c.args.responses.now)
    c.put_number.result WriteFault c.from_residual.result is ended c.put_number.ensures.printed
