use Rattle.std.proofs.Common.{rules}
use Rattle.std.proofs.lemmas.Fn.{filter_same}
use Rattle.t7_linear.proofs.orders.Orders.remove.Goals as goal

-- the closure answers the test, and changes nothing that it captured
pub returns : goal.returns
returns c = rw (← c.self.view_is) (filter_same _ _ _ (λ y answer f k. search rules) _ _ c.retain.ensures.filtered)
