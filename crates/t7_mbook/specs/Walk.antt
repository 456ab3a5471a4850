-- The orders that a walk is still to give.
use Rattle.std.specs.Prelude.{List}
use Rattle.t7_base.specs.declared.public.Resting.{Resting}
use Rattle.t7_mbook.specs.declared.orders.MarketWalk.{MarketWalk}
use Rattle.t7_mbook.specs.Kept.{shown_orders}

-- the orders that a walk has left
abbrev pub walk_rest : MarketWalk → List Resting
walk_rest w = shown_orders w.walk
