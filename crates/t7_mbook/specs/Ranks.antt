-- The rank of a price in its side: the best has the least.
use Rattle.std.specs.Prelude.{ℤ, pos, ◌-ℤ◌}
use Rattle.t7_base.specs.declared.ids.Side.{Side}
use Rattle.t7_base.specs.declared.ids.Side.TheVariants.{Buy, Sell}

-- the rank of a price on its side: the lower, the better
abbrev pub rank_of_price : Side → ℤ → ℤ
rank_of_price Buy price = pos 0 -ℤ price
rank_of_price Sell price = price
