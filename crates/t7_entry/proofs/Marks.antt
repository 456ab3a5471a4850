-- What holds of the owner, the id, the price and the stamp of each order that comes stays so in a book.
use Rattle.std.proofs.Common.{◌≡◌, ℕ, zero, suc, ◌+◌, ◌-◌, ℤ, true, false, not, cond, List, [], ◌∷◌, ◌++◌, Option, Some, None, refl}
use Rattle.std.specs.List.{filter}
use Rattle.t7_base.specs.declared.public.Public.TheVariants as public
use Rattle.t7_book.specs.declared.order.Order.{Order}
use Rattle.t7_book.specs.declared.trade.Trade.{Trade}
use Rattle.t7_book.specs.declared.command.Command.{Command}
use Rattle.t7_book.specs.declared.command.Command.TheVariants as command
use Rattle.t7_book.specs.Orders.{BookState, goes_before, is_in, is_of, is_order, order_of, renewed, same_name, with_left, with_order, without}
use Rattle.t7_book.specs.Commands.{changed_order, keeps_priority, new_order, new_stamp, with_total}
use Rattle.t7_book.specs.Trades.{after_trade, after_trades, crosses, is_used_up, taken, traded, trades}
use Rattle.t7_book.specs.Steps.{Effect, arrival, book_after, cancellation, change, crossing, deletions, executions, list_after, modification, remainder, steps}
use Rattle.t7_book.specs.Laws.{Each}
use Rattle.t7_book.proofs.Lists.{each_at, each_filter, each_placed, found_in}

module _ (P : ℕ → ℕ → ℤ → ℕ → Type 0) where
  -- it holds of an order
  abbrev pub Marked : Order → Type 0
  Marked y = P y.owner y.id y.rest.price y.rest.stamp

  -- of each order of every step's list
  abbrev AllMarked : List Effect → Type 0
  AllMarked [] = Unit {0}
  AllMarked (s ∷ ss) = Each Marked s.1 × AllMarked ss

  marked_append : (xs ys : List Effect) → AllMarked xs → AllMarked ys → AllMarked (xs ++ ys)
  marked_append [] ys a b = b
  marked_append (x ∷ xs) ys a b = (a.0, marked_append xs ys a.1 b)

  marked_after : (ss : List Effect) (orders : List Order) → Each Marked orders → AllMarked ss → Each Marked (list_after ss orders)
  marked_after [] orders marked all = marked
  marked_after (s ∷ ss) orders marked all = marked_after ss s.1 all.0 all.1

  marked_renewed : (x : Order) (orders : List Order) → Marked x → Each Marked orders → Each Marked (renewed x orders)
  marked_renewed x [] px marked = tt
  marked_renewed x (y ∷ ys) px marked = (
    elim (same_name x.rest y.rest) as (λ b. Marked (cond b x y)) [ true ↦ px | false ↦ marked.0 ],
    marked_renewed x ys px marked.1,
  )

  marked_placed : (securities : List ℤ) (x : Order) (orders : List Order) → Marked x → Each Marked orders → Each Marked (with_order securities x orders)
  marked_placed securities x orders px marked = each_placed (λ y z. goes_before securities y.rest z.rest) x Marked orders px marked

  -- of the makers of trades
  abbrev pub Makers : List Trade → Type 0
  Makers [] = Unit {0}
  Makers (t ∷ ts) = Marked t.maker × Makers ts

  makers_taken : (orders : List Order) (wanted : ℕ) → Each Marked orders → Makers (taken orders wanted)
  makers_taken [] wanted marked = tt
  makers_taken (y ∷ ys) zero marked = tt
  makers_taken (y ∷ ys) (suc n) marked = (marked.0, makers_taken ys (suc n - y.rest.qty) marked.1)

  pub makers_of : (x : Order) (orders : List Order) → Each Marked orders → Makers (trades x.rest orders)
  makers_of x orders marked = makers_taken (filter (λ y. crosses x.rest y.rest) orders) x.rest.qty (each_filter (λ y. crosses x.rest y.rest) Marked orders marked)

  pub marked_without : (y : Order) (orders : List Order) → Each Marked orders → Each Marked (without y.rest orders)
  marked_without y orders marked = each_filter (λ z. not (same_name y.rest z.rest)) Marked orders marked

  marked_trade : (t : Trade) (orders : List Order) → Marked t.maker → Each Marked orders → Each Marked (after_trade t orders)
  marked_trade t orders maker marked =
      elim (is_used_up t) as (λ b. Each Marked (cond b (without t.maker.rest orders) (renewed (with_left t.maker (t.maker.rest.qty - t.qty)) orders))) [
        | true ↦ marked_without t.maker orders marked
        | false ↦ marked_renewed (with_left t.maker (t.maker.rest.qty - t.qty)) orders maker marked
      ]

  marked_trades : (ts : List Trade) (orders : List Order) → Makers ts → Each Marked orders → Each Marked (after_trades ts orders)
  marked_trades [] orders makers marked = marked
  marked_trades (t ∷ ts) orders makers marked = marked_trades ts (after_trade t orders) makers.1 (marked_trade t orders makers.0 marked)

  marked_executions : (ts : List Trade) (orders : List Order) → Makers ts → Each Marked orders → AllMarked (executions ts orders)
  marked_executions [] orders makers marked = tt
  marked_executions (t ∷ ts) orders makers marked = let next = marked_trade t orders makers.0 marked in (next, marked_executions ts (after_trade t orders) makers.1 next)

  marked_remainder : (securities : List ℤ) (x : Order) (left : ℕ) (orders : List Order) → Marked x → Each Marked orders → AllMarked (remainder securities x left orders)
  marked_remainder securities x zero orders px marked = tt
  marked_remainder securities x (suc n) orders px marked = (marked_placed securities (with_left x (suc n)) orders px marked, tt)

  marked_crossing : (securities : List ℤ) (x : Order) (ts : List Trade) (orders : List Order) → Marked x → Makers ts → Each Marked orders → AllMarked (crossing securities x ts orders)
  marked_crossing securities x ts orders px makers marked = (
    marked,
    marked_append (executions ts orders) (remainder securities x (x.rest.qty - traded ts) (after_trades ts orders)) (marked_executions ts orders makers marked)
        (marked_remainder securities x (x.rest.qty - traded ts) (after_trades ts orders) px (marked_trades ts orders makers marked)),
  )

  marked_arrival : (securities : List ℤ) (x : Order) (ts : List Trade) (orders : List Order) → Marked x → Makers ts → Each Marked orders → AllMarked (arrival securities x ts orders)
  marked_arrival securities x [] orders px makers marked = (marked_placed securities x orders px marked, tt)
  marked_arrival securities x (t ∷ ts) orders px makers marked = marked_crossing securities x (t ∷ ts) orders px makers marked

  marked_change : (securities : List ℤ) (y x : Order) (ts : List Trade) (orders : List Order) → Marked x → Makers ts → Each Marked orders → AllMarked (change securities y x ts orders)
  marked_change securities y x [] orders px makers marked = (marked_placed securities x orders px marked, tt)
  marked_change securities y x (t ∷ ts) orders px makers marked = (marked, marked_crossing securities x (t ∷ ts) orders px makers marked)

  marked_modification : (book : BookState) (found : Option Order) (session order moment : ℕ) (price : ℤ) (qty : ℕ) → ((owner id : ℕ) (old : ℤ) (was : ℕ) → P owner id old was → P owner id price (new_stamp book moment))
      → order_of book.orders session order ≡ found → Each Marked book.orders
      → AllMarked (modification book found moment price qty)
  marked_modification book None session order moment price qty again is marked = tt
  marked_modification book (Some y) session order moment price qty again is marked =
      let py = each_at Marked y book.orders marked (found_in (is_order session order) y book.orders is) in
      let x = changed_order y price qty (new_stamp book moment) in
      let rest = without y.rest book.orders in
      let others = marked_without y book.orders marked in
      elim (keeps_priority y price qty) as (λ b. AllMarked (cond b ((public.SamePriority y.rest.security y.rest.side y.rest.stamp y.rest.price y.rest.qty (with_total y qty).rest.qty, renewed (with_total y qty) book.orders) ∷ []) (change book.roster.securities y x (trades x.rest rest) rest))) [
        | true ↦ (marked_renewed (with_total y qty) book.orders py marked, tt)
        | false ↦ marked_change book.roster.securities y x (trades x.rest rest) rest (again y.owner y.id y.rest.price y.rest.stamp py) (makers_of x rest others) others
      ]

  marked_cancellation : (found : Option Order) (orders : List Order) → Each Marked orders → AllMarked (cancellation found orders)
  marked_cancellation None orders marked = tt
  marked_cancellation (Some y) orders marked = (marked_without y orders marked, tt)

  marked_deletions : (ys orders : List Order) → Each Marked orders → AllMarked (deletions ys orders)
  marked_deletions [] orders marked = tt
  marked_deletions (y ∷ ys) orders marked = let next = marked_without y orders marked in (next, marked_deletions ys (without y.rest orders) next)

-- what a New brings has it, and a Modify's new price and stamp keep it
abbrev pub Brings : (ℕ → ℕ → ℤ → ℕ → Type 0) → BookState → Command → Type 0
Brings P book (command.New moment session security side price qty client) = P session (book.last_id + 1) price (new_stamp book moment)
Brings P book (command.Modify moment session order price qty client) = (owner id : ℕ) (old : ℤ) (was : ℕ) → P owner id old was → P owner id price (new_stamp book moment)
Brings P book other = Unit {0}

marked_steps : (P : ℕ → ℕ → ℤ → ℕ → Type 0) (book : BookState) (c : Command) → Brings P book c → Each (Marked P) book.orders → AllMarked P (steps book c)
marked_steps P book (command.New moment session security side price qty client) brings marked =
    let x = new_order book moment session security side price qty in
    marked_arrival P book.roster.securities x (trades x.rest book.orders) book.orders brings (makers_of P x book.orders marked) marked
marked_steps P book (command.Modify moment session order price qty client) brings marked =
    marked_modification P book (order_of book.orders session order) session order moment price qty brings refl marked
marked_steps P book (command.Delete moment session order client) brings marked = marked_cancellation P (order_of book.orders session order) book.orders marked
marked_steps P book (command.DeleteAll moment session security) brings marked = marked_deletions P (filter (is_of session security) book.orders) book.orders marked
marked_steps P book (command.Clear moment security) brings marked = (each_filter (λ y. not (is_in security y)) (Marked P) book.orders marked, tt)

pub marked_next : (P : ℕ → ℕ → ℤ → ℕ → Type 0) (book : BookState) (c : Command) → Brings P book c → Each (Marked P) book.orders → Each (Marked P) (book_after book c).orders
marked_next P book c brings marked = marked_after P (steps book c) book.orders marked (marked_steps P book c brings marked)
