use Rattle.t7_base.proofs.ProductFacts.{fixed_passes}
use Rattle.t7_base.proofs.product_file.fixed_number.Goals as goal

pub returns-clause-least : goal.returns-clause-least
returns-clause-least c =
    let within = fixed_passes c.args.rows.now c.args.at c.requires.first c.requires.inside c.requires.valid in
    rw (c.number_in.ensures.value, c.fixed_range.ensures.least, c.fixed_range.ensures.most, c.cell.ensures) within
