-- The sides of the securities by number, and the rank of a price in its side.
use Rattle.std.specs.Prelude.{ℕ, ◌+◌, ◌*◌, Bool, if◌then◌else◌, Option, Some, None, ℤ, pos, ◌-ℤ◌, List}
use Rattle.std.specs.List.{list_any}
use Rattle.std.specs.Ordering.{int_eq}
use Rattle.t7_base.specs.declared.ids.Side.{Side}
use Rattle.t7_base.specs.declared.ids.Side.TheVariants.{Buy, Sell}
use Rattle.t7_book.specs.Orders.{rank_of}

-- the security is one of the product's
abbrev pub is_listed : List ℤ → ℤ → Bool
is_listed securities security = list_any (λ s. int_eq s security) securities

-- buys come before sells
abbrev pub side_index : Side → ℕ
side_index Buy = 0
side_index Sell = 1

-- the number of a side: the securities as in the product file, the buys of each before its sells
abbrev pub number_of : List ℤ → ℤ → Side → ℕ
number_of securities security side = 2 * rank_of securities security + side_index side

-- where a security stands in the product file, if it does
abbrev pub rank_in : List ℤ → ℤ → Option ℕ
rank_in securities security = if is_listed securities security then Some (rank_of securities security) else None

-- what is noted of a security, once one was met at this place
abbrev pub noted : Option ℕ → Bool → ℕ → Option ℕ
noted None same place = if same then Some place else None
noted (Some rank) same place = Some rank

-- the rank of a price in its side: the best has the least
abbrev pub rank_of_price : Side → ℤ → ℤ
rank_of_price Buy price = pos 0 -ℤ price
rank_of_price Sell price = price

-- the other side
abbrev pub opposite : Side → Side
opposite Buy = Sell
opposite Sell = Buy
