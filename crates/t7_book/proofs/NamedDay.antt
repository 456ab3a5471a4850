-- Each list that accepted commands give has ids of its own, and few orders of each security.
use Rattle.std.proofs.Common.{◌≡◌, ◌≢◌, ℕ, ◌+◌, ◌-◌, ◌<◌, ◌≤◌, zero, suc, ℤ, true, false, not, cond, List, [], ◌∷◌, ◌++◌, length, Option, Some, None, refl, subst, inl, inr, arith}
use Rattle.std.specs.Prelude.{nat_le}
use Rattle.std.specs.List.{filter}
use Rattle.std.proofs.lemmas.Bool.{cases_Bool, leb-false, or_parts}
use Rattle.t7_book.specs.declared.order.Order.{Order}
use Rattle.t7_book.specs.declared.trade.Trade.{Trade}
use Rattle.t7_book.specs.declared.command.Command.{Command}
use Rattle.t7_book.specs.declared.command.Command.TheVariants as command
use Rattle.t7_book.specs.declared.command.BookRefusal.TheVariants.{BookFull}
use Rattle.t7_book.specs.Orders.{BookState, goes_before, is_in, is_of, is_order, order_of, renewed, same_name, with_left, with_order, without}
use Rattle.t7_book.specs.Commands.{changed_order, is_full, keeps_priority, new_order, new_stamp, refusal, with_total}
use Rattle.t7_book.specs.Trades.{after_trade, after_trades, traded, trades}
use Rattle.t7_book.specs.Steps.{Effect, arrival, book_after, cancellation, change, crossing, deletions, executions, last_id_after, list_after, modification, remainder, steps}
use Rattle.t7_book.specs.Trace.{AreAcceptedFrom, list_at, trace_from}
use Rattle.t7_book.specs.Laws.{Each, Distinct}
use Rattle.t7_book.proofs.Kepts.{each_trade}
use Rattle.t7_book.proofs.Lefts.{fit_next}
use Rattle.t7_book.proofs.Lists.{IsIn, distinct_filter, each_at, each_filter, each_placed, each_renewed, each_weaker, found_in}
use Rattle.t7_book.proofs.Makers.{AreMakers, makers_after, trades_makers}
use Rattle.t7_book.proofs.Named.{IsNamed, MayCome, comes_after, comes_again, distinct_after, named_after, named_filter, named_placed, named_renewed}
use Rattle.t7_book.proofs.RunningDay.{BookFits}
use Rattle.t7_book.proofs.StepLemmas.{list_after_executions}

-- P holds of the list beside each message
abbrev pub AllLists : (List Order → Type 0) → List Effect → Type 0
AllLists P [] = Unit {0}
AllLists P (s ∷ ss) = P s.1 × AllLists P ss

module _ (P : List Order → Type 0) where
  pub lists_append : (a b : List Effect) → AllLists P a → AllLists P b → AllLists P (a ++ b)
  lists_append [] b first rest = rest
  lists_append (s ∷ a) b first rest = (first.0, lists_append a b first.1 rest)

  pub last_list : (ss : List Effect) (orders : List Order) → P orders → AllLists P ss → P (list_after ss orders)
  last_list [] orders here all = here
  last_list (s ∷ ss) orders here all = last_list ss s.1 all.0 all.1

  pub list_of : (ss : List Effect) (orders : List Order) (n : ℕ) → P orders → AllLists P ss → P (list_at orders ss n)
  list_of ss orders zero here all = here
  list_of [] orders (suc n) here all = here
  list_of (s ∷ ss) orders (suc n) here all = list_of ss s.1 n all.0 all.1

lists_weaker : (P Q : List Order → Type 0) → ((orders : List Order) → P orders → Q orders) → (ss : List Effect) → AllLists P ss → AllLists Q ss
lists_weaker P Q f [] all = tt
lists_weaker P Q f (s ∷ ss) all = (f s.1 all.0, lists_weaker P Q f ss all.1)

-- the orders have ids of their own, up to the last
module _ (last : ℕ) where
  abbrev Within : Order → Type 0
  Within y = y.id ≤ last

  pub record IsUpTo (orders : List Order) : Type 0 where
    pub named : IsNamed orders
    pub within : Each (λ y. y.id ≤ last) orders

  drop : (y : Order) (orders : List Order) → IsUpTo orders → IsUpTo (without y.rest orders)
  drop y orders up = record {
    named = named_filter (λ z. not (same_name y.rest z.rest)) orders up.named;
    within = each_filter (λ z. not (same_name y.rest z.rest)) Within orders up.within;
  }

  place : (securities : List ℤ) (x : Order) (orders : List Order) → MayCome x orders → x.id ≤ last → IsUpTo orders → IsUpTo (with_order securities x orders)
  place securities x orders comes within up =
      let before : Order → Order → _ = λ y z. goes_before securities y.rest z.rest in
      record {
        named = named_placed before x orders comes up.named;
        within = each_placed before x Within orders within up.within;
      }

  trade : (t : Trade) (orders : List Order) → IsIn t.maker orders → Distinct orders → IsUpTo orders → IsUpTo (after_trade t orders)
  trade t orders at distinct up = record {
    named = named_after t orders at distinct up.named;
    within = each_trade Within (λ y left h. h) t orders at up.within;
  }

  up_executions : (ts : List Trade) (orders : List Order) → AreMakers ts orders → Distinct orders → IsUpTo orders → AllLists IsUpTo (executions ts orders)
  up_executions [] orders makers distinct up = tt
  up_executions (t ∷ ts) orders makers distinct up =
      let next = trade t orders makers.0 distinct up in
      (next, up_executions ts (after_trade t orders) (makers_after t ts orders makers.2 makers.3) (distinct_after t orders distinct) next)

  up_deletions : (gone orders : List Order) → IsUpTo orders → AllLists IsUpTo (deletions gone orders)
  up_deletions [] orders up = tt
  up_deletions (y ∷ ys) orders up = let next = drop y orders up in (next, up_deletions ys (without y.rest orders) next)

  up_cancellation : (o : Option Order) (orders : List Order) → IsUpTo orders → AllLists IsUpTo (cancellation o orders)
  up_cancellation None orders up = tt
  up_cancellation (Some y) orders up = (drop y orders up, tt)

  -- an order comes
  module _ (securities : List ℤ) (x : Order) (within : x.id ≤ last) where
    up_remainder : (left : ℕ) (orders : List Order) → MayCome x orders → IsUpTo orders → AllLists IsUpTo (remainder securities x left orders)
    up_remainder zero orders comes up = tt
    up_remainder (suc n) orders comes up = (place securities (with_left x (suc n)) orders (record { new = comes.new; room = comes.room }) within up, tt)

    up_crossing : (ts : List Trade) (orders : List Order) → AreMakers ts orders → Distinct orders → MayCome x orders → IsUpTo orders → AllLists IsUpTo (crossing securities x ts orders)
    up_crossing ts orders makers distinct comes up =
        let left = x.rest.qty - traded ts in
        let done = up_executions ts orders makers distinct up in
        let after : IsUpTo (after_trades ts orders) = subst IsUpTo (list_after_executions ts orders) (last_list IsUpTo (executions ts orders) orders up done) in
        (up, lists_append IsUpTo (executions ts orders) (remainder securities x left (after_trades ts orders)) done (up_remainder left (after_trades ts orders) (comes_after x ts orders makers distinct comes) after))

    up_arrival : (ts : List Trade) (orders : List Order) → AreMakers ts orders → Distinct orders → MayCome x orders → IsUpTo orders → AllLists IsUpTo (arrival securities x ts orders)
    up_arrival [] orders makers distinct comes up = (place securities x orders comes within up, tt)
    up_arrival (t ∷ ts) orders makers distinct comes up = up_crossing (t ∷ ts) orders makers distinct comes up

    up_change : (y : Order) (ts : List Trade) (orders : List Order) → AreMakers ts orders → Distinct orders → MayCome x orders → IsUpTo orders → AllLists IsUpTo (change securities y x ts orders)
    up_change y [] orders makers distinct comes up = (place securities x orders comes within up, tt)
    up_change y (t ∷ ts) orders makers distinct comes up = (up, up_crossing (t ∷ ts) orders makers distinct comes up)

later_ids : (last later : ℕ) (orders : List Order) → last ≤ later → IsUpTo last orders → IsUpTo later orders
later_ids last later orders le up = record {
  named = up.named;
  within = each_weaker (λ y. y.id ≤ last) (λ y. y.id ≤ later) (λ y within. omega (arith, within, le)) orders up.within;
}

-- an order that keeps its priority
up_kept : (last : ℕ) (y : Order) (qty : ℕ) (orders : List Order) → IsIn y orders → Distinct orders → IsUpTo last orders → IsUpTo last (renewed (with_total y qty) orders)
up_kept last y qty orders at distinct up =
    let here = each_at (λ z. z.id ≤ last) y orders up.within at in
    record {
      named = named_renewed (with_total y qty) y orders at distinct refl refl up.named;
      within = each_renewed (λ z. z.id ≤ last) (with_total y qty) (λ z h. elim (same_name y.rest z.rest) as (λ b. (cond b (with_total y qty) z).id ≤ last) [ true ↦ here | false ↦ h ]) orders up.within;
    }

up_modification : (book : BookState) (session order moment : ℕ) (price : ℤ) (qty : ℕ) (o : Option Order) → order_of book.orders session order ≡ o → Distinct book.orders → IsUpTo book.last_id book.orders
    → AllLists (IsUpTo book.last_id) (modification book o moment price qty)
up_modification book session order moment price qty None found distinct up = tt
up_modification book session order moment price qty (Some y) found distinct up =
    let at = found_in (is_order session order) y book.orders found in
    let here = each_at (λ z. z.id ≤ book.last_id) y book.orders up.within at in
    let x = changed_order y price qty (new_stamp book moment) in
    let others = without y.rest book.orders in
    let apart = distinct_filter (λ z. not (same_name y.rest z.rest)) book.orders distinct in
    let comes = comes_again y x book.orders distinct up.named at refl refl in
    elim (cases_Bool (keeps_priority y price qty)) [
      | inl kept ↦ rw kept (up_kept book.last_id y qty book.orders at distinct up, tt)
      | inr moves ↦ rw moves (up_change book.last_id book.roster.securities x here y (trades x.rest others) others (trades_makers x.rest others apart) apart comes (drop book.last_id y book.orders up))
    ]

-- a New that isn't refused finds room in its security
pub room_of : (orders : List Order) (security : ℤ) → (cond (is_full orders security) (Some BookFull) None) ≡ None → length (filter (is_in security) orders) < 10_000
room_of orders security accepted = elim (cases_Bool (is_full orders security)) [
  | inl full ↦ absurd (let e : Some BookFull ≡ None = rw full at accepted in cc)
  | inr open_still ↦ let less = leb-false 10_000 (length (filter (is_in security) orders)) (or_parts (nat_le 20_000 (length orders)) _ open_still).1 in omega (arith, less)
]

-- the lists of a command that isn't refused
pub up_steps : (book : BookState) (c : Command) → Distinct book.orders → IsUpTo book.last_id book.orders → refusal book c ≡ None → AllLists (IsUpTo (last_id_after book c)) (steps book c)
up_steps book (command.New moment session security side price qty client) distinct up accepted =
    let x = new_order book moment session security side price qty in
    let last = book.last_id + 1 in
    let comes : MayCome x book.orders = record {
      new = each_weaker (λ y. y.id ≤ book.last_id) (λ y. y.id ≢ x.id) (λ y within e. omega (arith, within, e)) book.orders up.within;
      room = room_of book.orders security accepted;
    } in
    up_arrival last book.roster.securities x (omega arith) (trades x.rest book.orders) book.orders (trades_makers x.rest book.orders distinct) distinct comes (later_ids book.last_id last book.orders (omega arith) up)
up_steps book (command.Modify moment session order price qty client) distinct up accepted =
    up_modification book session order moment price qty (order_of book.orders session order) refl distinct up
up_steps book (command.Delete moment session order client) distinct up accepted = up_cancellation book.last_id (order_of book.orders session order) book.orders up
up_steps book (command.DeleteAll moment session security) distinct up accepted = up_deletions book.last_id (filter (is_of session security) book.orders) book.orders up
up_steps book (command.Clear moment security) distinct up accepted =
    let kept : Order → _ = λ y. not (is_in security y) in
    (record { named = named_filter kept book.orders up.named; within = each_filter kept (λ y. y.id ≤ book.last_id) book.orders up.within }, tt)

ids_rise : (book : BookState) (c : Command) → book.last_id ≤ last_id_after book c
ids_rise book (command.New moment session security side price qty client) = omega arith
ids_rise book (command.Modify moment session order price qty client) = omega arith
ids_rise book (command.Delete moment session order client) = omega arith
ids_rise book (command.DeleteAll moment session security) = omega arith
ids_rise book (command.Clear moment security) = omega arith

-- the list that it leaves
pub up_next : (book : BookState) (c : Command) → Distinct book.orders → IsUpTo book.last_id book.orders → refusal book c ≡ None → IsUpTo (book_after book c).last_id (book_after book c).orders
up_next book c distinct up accepted =
    let last = last_id_after book c in
    last_list (IsUpTo last) (steps book c) book.orders (later_ids book.last_id last book.orders (ids_rise book c) up) (up_steps book c distinct up accepted)

-- the lists of a day's commands
pub named_trace : (book : BookState) (cs : List Command) → BookFits book → IsUpTo book.last_id book.orders → AreAcceptedFrom book cs → AllLists IsNamed (trace_from book cs)
named_trace book [] fit up accepted = tt
named_trace book (c ∷ cs) fit up accepted =
    let first = up_steps book c fit.distinct up accepted.1 in
    lists_append IsNamed (steps book c) (trace_from (book_after book c) cs)
    (lists_weaker (IsUpTo (last_id_after book c)) IsNamed (λ orders up. up.named) (steps book c) first)
    (named_trace (book_after book c) cs (fit_next book c fit accepted.0 accepted.1) (up_next book c fit.distinct up accepted.1) accepted.2)
