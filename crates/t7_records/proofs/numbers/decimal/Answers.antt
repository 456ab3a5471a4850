use Rattle.std.proofs.Common.{arith, refl}
use Rattle.t7_records.proofs.DecimalFacts.{too_big}
use Rattle.t7_records.proofs.numbers.decimal.Goals as goal

pub returns-then-next-most-clause-value : goal.returns-then-next-most-clause-value
returns-then-next-most-clause-value c =
    rw (too_big c.args.most c.loop-digit.number c.loop-digit.digit-index c.args.cell.now (omega arith) c.loop-digit.invariant.rest (omega arith)) refl
