use Rattle.std.proofs.Common.{rules}
use Rattle.t7_base.specs.ProductFile.{fixed_word}
use Rattle.t7_base.proofs.product_file.fixed_word.Goals as goal

pub returns-in-0 : goal.returns-in-0
unfolding fixed_word
returns-in-0 c = search rules

pub returns-in-1 : goal.returns-in-1
unfolding fixed_word
returns-in-1 c = search rules

pub returns-in-2 : goal.returns-in-2
unfolding fixed_word
returns-in-2 c = search rules

pub returns-in_default : goal.returns-in_default
unfolding fixed_word
returns-in_default c = search rules
