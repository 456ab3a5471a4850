use Rattle.std.proofs.Common.{arith, rules}
use Rattle.t7_fields.specs.Spelling.{Fits}
use Rattle.t7_fields.proofs.SpellFacts.{read_spells}
use Rattle.t7_fields.proofs.view.View.of.Goals as goal

pub returns-clause-spelled : goal.returns-clause-spelled
returns-clause-spelled c id =
    let fits : Fits c.args.template.now c.args.bytes.now = search rules in
    read_spells c.args.template.now c.args.bytes.now c.len.ensures.layout (λ k. omega (arith, c.type_inv.bytes k)) fits id

pub invariant_of-result : goal.invariant_of-result
invariant_of-result c =
    let fits : Fits c.args.template.now c.args.bytes.now = search rules in
    record { layout = c.len.ensures.layout; fits = fits }

pub returns-clause-fits : goal.returns-clause-fits
returns-clause-fits c = search rules

pub body_length-requires : goal.body_length-requires
body_length-requires c = omega (arith, c.len.ensures.layout.long, c.len.ensures.value)
