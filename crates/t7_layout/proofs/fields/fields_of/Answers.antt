use Rattle.std.proofs.Common.{arith}
use Rattle.t7_layout.proofs.FaultFacts.{valid_passes}
use Rattle.t7_layout.proofs.fields.fields_of.Goals as goal

pub field-requires-clause-cells : goal.field-requires-clause-cells
field-requires-clause-cells c = (valid_passes c.args.rows.now c.requires.valid c.loop-place.place (omega arith) (omega arith)).cells

pub field-requires-clause-width : goal.field-requires-clause-width
field-requires-clause-width c = (valid_passes c.args.rows.now c.requires.valid c.loop-place.place (omega arith) (omega arith)).width
