use Rattle.std.proofs.Common.{rules}
use Rattle.t7_base.specs.ProductFile.{fault_at}
use Rattle.t7_base.proofs.product_file.ProductEntries.fault_at.Goals as goal

pub returns-then-fails_key : goal.returns-then-fails_key
unfolding fault_at
returns-then-fails_key c = search rules

pub returns-then-fails_columns : goal.returns-then-fails_columns
unfolding fault_at
returns-then-fails_columns c = search rules

pub returns-then-fails_number : goal.returns-then-fails_number
unfolding fault_at
returns-then-fails_number c = search rules

pub returns-then-fails_duplicate : goal.returns-then-fails_duplicate
unfolding fault_at
returns-then-fails_duplicate c = search rules

pub returns : goal.returns
unfolding fault_at
returns c = search rules
