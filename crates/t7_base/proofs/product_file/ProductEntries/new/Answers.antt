use Rattle.t7_base.proofs.ProductFacts.{no_lists_are}
use Rattle.t7_base.proofs.product_file.ProductEntries.new.Goals as goal

pub invariant_of-result : goal.invariant_of-result
invariant_of-result c = rw (c.new.ensures.items, c.new-2.ensures.items, c.new-3.ensures.items) no_lists_are
