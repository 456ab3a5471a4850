-- Crossing, and what an incoming order trades.
use Rattle.std.specs.Prelude.{ℕ, ◌+◌, ◌-◌, min, Bool, false, ◌&&◌, nat_le, if◌then◌else◌, ℤ, pos, ◌-ℤ◌, int_le, List, [], ◌∷◌, zero, suc}
use Rattle.std.specs.List.{filter}
use Rattle.std.specs.Ordering.{int_eq}
use Rattle.t7_base.specs.declared.ids.Side.{Side}
use Rattle.t7_base.specs.declared.ids.Side.TheVariants.{Buy, Sell}
use Rattle.t7_base.specs.declared.public.Resting.{Resting}
use Rattle.t7_base.specs.declared.public.Public.{Public}
use Rattle.t7_base.specs.declared.public.Public.TheVariants.{Partial, Full}
use Rattle.t7_book.specs.declared.order.Order.{Order}
use Rattle.t7_book.specs.declared.trade.Trade.{Trade}
use Rattle.t7_book.specs.declared.command.Note.{Note}
use Rattle.t7_book.specs.declared.command.Note.TheVariants.{Fill}
use Rattle.t7_book.specs.Orders.{without, with_left, renewed}

-- a buy crosses a sell whose price is at most its own, a sell crosses a buy whose price is at least its own
abbrev pub price_crosses : Side → Side → ℤ → ℤ → Bool
price_crosses Buy Sell own theirs = int_le theirs own
price_crosses Sell Buy own theirs = int_le own theirs
price_crosses Buy Buy own theirs = false
price_crosses Sell Sell own theirs = false

-- the incoming order x crosses the resting order y: they are of one security, and their prices cross
abbrev pub crosses : Resting → Resting → Bool
crosses x y = int_eq x.security y.security && price_crosses x.side y.side x.price y.price

-- the first order gives what it has or what is wanted, then the next, until nothing more is wanted
abbrev pub taken : List Order → ℕ → List Trade
taken [] wanted = []
taken (y ∷ ys) zero = []
taken (y ∷ ys) (suc n) = (record { maker = y; qty = min (suc n) y.rest.qty }) ∷ taken ys (suc n - y.rest.qty)

-- the trades of an incoming order: it takes from the orders that it crosses, in the order of the book
abbrev pub trades : Resting → List Order → List Trade
trades x orders = taken (filter (λ y. crosses x y.rest) orders) x.qty

-- a trade happens at the resting order's price
abbrev pub trade_price : Trade → ℤ
trade_price t = t.maker.rest.price

-- the sum of the traded quantities
abbrev pub traded : List Trade → ℕ
traded [] = 0
traded (t ∷ ts) = t.qty + traded ts

-- the price of the last trade
abbrev pub last_price : ℤ → List Trade → ℤ
last_price price [] = price
last_price price (t ∷ ts) = last_price (trade_price t) ts

-- the trade takes all that is left of the resting order
abbrev pub is_used_up : Trade → Bool
is_used_up t = nat_le t.maker.rest.qty t.qty

-- the book after a trade: the resting order is gone, or what is left of it keeps its place
abbrev pub after_trade : Trade → List Order → List Order
after_trade t orders = if is_used_up t then without t.maker.rest orders else renewed (with_left t.maker (t.maker.rest.qty - t.qty)) orders

-- the book after some trades
abbrev pub after_trades : List Trade → List Order → List Order
after_trades [] orders = orders
after_trades (t ∷ ts) orders = after_trades ts (after_trade t orders)

-- the message of a trade: a full execution of the resting order, or a partial one
abbrev pub execution : Trade → Public
execution t =
    let y = t.maker.rest in
    if is_used_up t then Full y.security y.side y.stamp y.price t.qty (trade_price t) else Partial y.security y.side y.stamp y.price t.qty (trade_price t)

-- the note of a trade, after which this much is left of the incoming order with this total
abbrev pub fill : Trade → ℕ → ℕ → Note
fill t total left =
    let maker_left = t.maker.rest.qty - t.qty in
    Fill t.maker.id t.maker.owner t.maker.rest.side (pos maker_left) (pos t.maker.total -ℤ pos maker_left) (pos left) (pos total -ℤ pos left) t.qty (trade_price t)

-- the notes of the trades of an order with this total, of which this much is left before them
abbrev pub fills : List Trade → ℕ → ℕ → List Note
fills [] total left = []
fills (t ∷ ts) total left = fill t total (left - t.qty) ∷ fills ts total (left - t.qty)
