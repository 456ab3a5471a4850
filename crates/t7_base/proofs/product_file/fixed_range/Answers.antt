use Rattle.std.proofs.Common.{rules}
use Rattle.t7_base.specs.ProductFile.{fixed_range}
use Rattle.t7_base.proofs.product_file.fixed_range.Goals as goal

pub returns-in-0-clause-least : goal.returns-in-0-clause-least
unfolding fixed_range
returns-in-0-clause-least c = search rules

pub returns-in-0-clause-most : goal.returns-in-0-clause-most
unfolding fixed_range
returns-in-0-clause-most c = search rules

pub returns-in-1-clause-least : goal.returns-in-1-clause-least
unfolding fixed_range
returns-in-1-clause-least c = search rules

pub returns-in-1-clause-most : goal.returns-in-1-clause-most
unfolding fixed_range
returns-in-1-clause-most c = search rules

pub returns-in-2-clause-least : goal.returns-in-2-clause-least
unfolding fixed_range
returns-in-2-clause-least c = search rules

pub returns-in-2-clause-most : goal.returns-in-2-clause-most
unfolding fixed_range
returns-in-2-clause-most c = search rules

pub returns-in_default-clause-least : goal.returns-in_default-clause-least
unfolding fixed_range
returns-in_default-clause-least c = search rules

pub returns-in_default-clause-most : goal.returns-in_default-clause-most
unfolding fixed_range
returns-in_default-clause-most c = search rules
