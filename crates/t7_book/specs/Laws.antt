-- Laws of the book.
use Rattle.std.specs.Prelude.{◌≡◌, ◌≢◌, ◌↔◌, ℕ, ◌<◌, ◌≤◌, ◌-◌, min, true, ℤ, pos, List, [], ◌∷◌, ◌++◌, length, Option, Some, None}
use Rattle.std.specs.List.{filter, find}
use Rattle.t7_base.specs.Listing.{Listing, IsListing}
use Rattle.t7_base.specs.declared.public.Resting.{Resting}
use Rattle.t7_book.specs.declared.order.Order.{Order}
use Rattle.t7_book.specs.declared.trade.Trade.{Trade}
use Rattle.t7_book.specs.declared.command.Command.{Command}
use Rattle.t7_book.specs.Orders.{BookState, empty_book, goes_before, is_in, roster_of}
use Rattle.t7_book.specs.Trades.{crosses, trades, after_trade}
use Rattle.t7_book.specs.Commands.{executed_of, IsForProduct, refusal}
use Rattle.t7_book.specs.Steps.{Effect, book_after, messages, notes_of, steps}
use Rattle.t7_book.specs.Trace.{trace, market, book_left, AreAccepted}

-- The trace of commands is a prefix of the trace of any list that begins with them,
-- so commands that follow change neither a message nor the book after it.
pub record IsKeptByMore (listing : Listing) (cs more : List Command) : Type 0 where
  pub messages : (rest : List Effect) × (trace listing (cs ++ more) ≡ trace listing cs ++ rest)
  pub books : (n : ℕ) → n ≤ length (trace listing cs) → market listing (cs ++ more) n ≡ market listing cs n

-- the first law
abbrev pub TracesGrow : Type 0
TracesGrow = (listing : Listing) (cs more : List Command) → IsKeptByMore listing cs more

-- P holds of each order
abbrev pub Each : (Order → Type 0) → List Order → Type 0
Each P [] = Unit {0}
Each P (y ∷ ys) = P y × Each P ys

-- no two orders have one stamp, so each stands once
abbrev pub Distinct : List Order → Type 0
Distinct [] = Unit {0}
Distinct (y ∷ ys) = Each (λ z. z.rest.stamp ≢ y.rest.stamp) ys × Distinct ys

-- the first order of the book that x crosses
abbrev pub first_crossing : Resting → List Order → Option Order
first_crossing x orders = find (λ y. crosses x y.rest) orders

-- the trade of x with a resting order, for the smaller of the two quantities left
abbrev pub trade_with : Resting → Order → Trade
trade_with x y = record { maker = y; qty = min x.qty y.rest.qty }

-- x with what a trade leaves of it
abbrev pub lowered : Resting → Trade → Resting
lowered x t = record x { qty = x.qty - t.qty }

-- An incoming order trades with the first crossing order of the book, and then as what that leaves trades with what that leaves,
-- until nothing of it is left or no order crosses it.
pub record TradesInTurn (x : Resting) (orders : List Order) : Type 0 where
  pub nothing_left : x.qty ≡ 0 → trades x orders ≡ []
  pub none_crosses : first_crossing x orders ≡ None → trades x orders ≡ []
  pub first : (y : Order) → 1 ≤ x.qty → first_crossing x orders ≡ Some y
      → trades x orders ≡ trade_with x y ∷ trades (lowered x (trade_with x y)) (after_trade (trade_with x y) orders)

-- the second law, of each book in which each order stands once
abbrev pub AllTradeInTurn : Type 0
AllTradeInTurn = (x : Resting) (orders : List Order) → Distinct orders → TradesInTurn x orders

-- each order goes before all that stand behind it
abbrev pub IsInOrder : List ℤ → List Order → Type 0
IsInOrder securities [] = Unit {0}
IsInOrder securities (y ∷ ys) = Each (λ z. goes_before securities y.rest z.rest ≡ true) ys × IsInOrder securities ys

-- what is left of an order is its total less what was executed
pub record IsWhole (y : Order) : Type 0 where
  pub within : y.rest.qty ≤ y.total
  pub executed : y.executed ≡ pos (executed_of y)

-- no two orders have one id
abbrev pub DistinctIds : List Order → Type 0
DistinctIds [] = Unit {0}
DistinctIds (y ∷ ys) = Each (λ z. z.id ≢ y.id) ys × DistinctIds ys

-- The list stands in the order of the book, each order once and under an id of its own, and each is its total less what was executed;
-- there are at most 20,000 orders, and at most 10,000 of a security.
pub record IsBook (securities : List ℤ) (orders : List Order) : Type 0 where
  pub in_order : IsInOrder securities orders
  pub once : Distinct orders
  pub ids : DistinctIds orders
  pub whole : Each IsWhole orders
  pub few : length orders ≤ 20_000
  pub few_of_each : (security : ℤ) → length (filter (is_in security) orders) ≤ 10_000

-- the third law: so is the book after each message of accepted commands
abbrev pub MarketsAreBooks : Type 0
MarketsAreBooks = (listing : Listing) (cs : List Command) → AreAccepted listing cs → (n : ℕ) → IsBook listing.securities (market listing cs n)

-- the fourth law: a trade of an incoming order with the first order that it crosses leaves a book
abbrev pub TradesLeaveBooks : Type 0
TradesLeaveBooks = (securities : List ℤ) (x : Resting) (orders : List Order) (y : Order) → IsBook securities orders → first_crossing x orders ≡ Some y
    → IsBook securities (after_trade (trade_with x y) orders)

-- the book that a day's commands leave
abbrev pub left_by : Listing → List Command → BookState
left_by listing cs = book_left (empty_book (roster_of listing)) cs

-- the command is for the product of the book, and the book doesn't refuse it
pub record IsAccepted (book : BookState) (c : Command) : Type 0 where
  pub for_product : IsForProduct book.roster c
  pub allowed : refusal book c ≡ None

-- A command more gives its own steps behind those before it and leaves what it makes of the book left;
-- with it the commands are accepted exactly where those before it are, fewer than 200,000, and the book left accepts it.
pub record IsOneMore (listing : Listing) (cs : List Command) (c : Command) : Type 0 where
  pub behind : trace listing (cs ++ c ∷ []) ≡ trace listing cs ++ steps (left_by listing cs) c
  pub leaves : left_by listing (cs ++ c ∷ []) ≡ book_after (left_by listing cs) c
  pub accepted : AreAccepted listing (cs ++ c ∷ []) ↔ (AreAccepted listing cs × (length cs < 200_000) × IsAccepted (left_by listing cs) c)

-- the fifth law, of each command more
abbrev pub CommandsAddTheirSteps : Type 0
CommandsAddTheirSteps = (listing : Listing) (cs : List Command) (c : Command) → IsOneMore listing cs c

-- a command gives at most 10,002 messages and at most 9,999 notes
pub record IsShort (book : BookState) (c : Command) : Type 0 where
  pub messages : length (messages (steps book c)) ≤ 10_002
  pub notes : length (notes_of book c) ≤ 9_999

-- the sixth law: so is each accepted command of a product's day
abbrev pub CommandsAreShort : Type 0
CommandsAreShort = (listing : Listing) (cs : List Command) (c : Command) → IsListing listing → AreAccepted listing (cs ++ c ∷ []) → IsShort (left_by listing cs) c
