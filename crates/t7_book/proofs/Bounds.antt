-- An accepted command gives few messages and few notes.
use Rattle.std.proofs.Common.{◌≡◌, ℕ, ◌+◌, ◌-◌, ◌≤◌, zero, suc, ℤ, Bool, true, false, cond, List, [], ◌∷◌, length, Option, Some, None, refl, ap, sym, inl, inr, arith}
use Rattle.std.specs.Prelude.{◌==◌}
use Rattle.std.specs.List.{filter}
use Rattle.std.specs.Ordering.{int_eq}
use Rattle.std.proofs.lemmas.Bool.{and_parts, cases_Bool}
use Rattle.std.proofs.lemmas.Bool.Decides.{Decides-int_eq}
use Rattle.std.proofs.lemmas.List.{length-append, length-map}
use Rattle.t7_base.specs.declared.public.Resting.{Resting}
use Rattle.t7_book.specs.declared.order.Order.{Order}
use Rattle.t7_book.specs.declared.trade.Trade.{Trade}
use Rattle.t7_book.specs.declared.command.Command.{Command}
use Rattle.t7_book.specs.declared.command.Command.TheVariants as command
use Rattle.t7_book.specs.declared.command.Note.TheVariants.{Cleared}
use Rattle.t7_book.specs.Orders.{BookState, empty_book, is_in, is_of, is_order, order_of, roster_of, without}
use Rattle.t7_book.specs.Commands.{changed_order, keeps_priority, new_order, new_stamp, refusal}
use Rattle.t7_book.specs.Trades.{after_trade, after_trades, crosses, fills, price_crosses, taken, traded, trades}
use Rattle.t7_book.specs.Steps.{arrival, cancellation, change, change_notes, cleared, crossing, deletions, executions, modification, notes_of, remainder, steps}
use Rattle.t7_book.specs.Laws.{CommandsAreShort, IsBook, left_by}
use Rattle.t7_book.proofs.Books.{accepted_more, left_roster, running_left}
use Rattle.t7_book.proofs.Lists.{found_in}
use Rattle.t7_book.proofs.Named.{comes_again}
use Rattle.t7_book.proofs.NamedDay.{room_of}

-- a filter that lets more through
length_filter_more : (p q : Order → Bool) → ((y : Order) → p y ≡ true → q y ≡ true) → (ys : List Order) → length (filter p ys) ≤ length (filter q ys)
length_filter_more p q more [] = omega arith
length_filter_more p q more (y ∷ ys) =
    let rest = length_filter_more p q more ys in
    elim (cases_Bool (p y)) [
      | inl passes ↦ rw (passes, more y passes) (omega (arith, rest))
      | inr fails ↦ rw fails (elim (q y) as (λ b. length (filter p ys) ≤ length (cond b (y ∷ filter q ys) (filter q ys))) [ true ↦ omega (arith, rest) | false ↦ rest ])
    ]

length_taken : (ys : List Order) (wanted : ℕ) → length (taken ys wanted) ≤ length ys
length_taken [] wanted = omega arith
length_taken (y ∷ ys) zero = omega arith
length_taken (y ∷ ys) (suc n) = let rest = length_taken ys (suc n - y.rest.qty) in omega (arith, rest)

-- an order trades with orders of its security
few_trades : (x : Resting) (orders : List Order) → length (trades x orders) ≤ length (filter (is_in x.security) orders)
few_trades x orders =
    let crossed : Order → Bool = λ y. crosses x y.rest in
    let some = length_taken (filter crossed orders) x.qty in
    let all = length_filter_more crossed (is_in x.security) (λ y h.
    let same = (Decides-int_eq x.security y.rest.security).0 (and_parts (int_eq x.security y.rest.security) (price_crosses x.side y.rest.side x.price y.rest.price) h).0 in
    (Decides-int_eq y.rest.security x.security).1 (sym same)) orders in
    omega (arith, some, all)

length_executions : (ts : List Trade) (orders : List Order) → length (executions ts orders) ≡ length ts
length_executions [] orders = refl
length_executions (t ∷ ts) orders = let rest = length_executions ts (after_trade t orders) in omega (arith, rest)

length_fills : (ts : List Trade) (total left : ℕ) → length (fills ts total left) ≡ length ts
length_fills [] total left = refl
length_fills (t ∷ ts) total left = let rest = length_fills ts total (left - t.qty) in omega (arith, rest)

length_remainder : (securities : List ℤ) (x : Order) (left : ℕ) (orders : List Order) → length (remainder securities x left orders) ≤ 1
length_remainder securities x zero orders = omega arith
length_remainder securities x (suc n) orders = omega arith

length_crossing : (securities : List ℤ) (x : Order) (ts : List Trade) (orders : List Order) → length (crossing securities x ts orders) ≤ length ts + 2
length_crossing securities x ts orders =
    let left = x.rest.qty - traded ts in
    let both = length-append (executions ts orders) (remainder securities x left (after_trades ts orders)) in
    let first = length_executions ts orders in
    let last = length_remainder securities x left (after_trades ts orders) in
    omega (arith, both, first, last)

length_arrival : (securities : List ℤ) (x : Order) (ts : List Trade) (orders : List Order) → length (arrival securities x ts orders) ≤ length ts + 2
length_arrival securities x [] orders = omega arith
length_arrival securities x (t ∷ ts) orders = length_crossing securities x (t ∷ ts) orders

length_change : (securities : List ℤ) (y x : Order) (ts : List Trade) (orders : List Order) → length (change securities y x ts orders) ≤ length ts + 3
length_change securities y x [] orders = omega arith
length_change securities y x (t ∷ ts) orders = let more = length_crossing securities x (t ∷ ts) orders in omega (arith, more)

length_cancellation : (o : Option Order) (orders : List Order) → length (cancellation o orders) ≤ 1
length_cancellation None orders = omega arith
length_cancellation (Some y) orders = omega arith

length_deletions : (gone orders : List Order) → length (deletions gone orders) ≡ length gone
length_deletions [] orders = refl
length_deletions (y ∷ ys) orders = let rest = length_deletions ys (without y.rest orders) in omega (arith, rest)

length_cleared : (sessions : List ℕ) (security : ℤ) (orders : List Order) → length (cleared sessions security orders) ≤ length sessions
length_cleared [] security orders = omega arith
length_cleared (session ∷ sessions) security orders =
    let count = length (filter (is_of session security) orders) in
    let rest = length_cleared sessions security orders in
    elim (count == 0) as (λ b. length (cond b (cleared sessions security orders) (Cleared session count ∷ cleared sessions security orders)) ≤ suc (length sessions)) [ true ↦ omega (arith, rest) | false ↦ omega (arith, rest) ]

module _ (book : BookState) (is_book : IsBook book.roster.securities book.orders) where
  -- a modification trades with none but the other orders of the security
  few_changes : (session order moment : ℕ) (price : ℤ) (qty : ℕ) (y : Order) → order_of book.orders session order ≡ Some y
      → length (trades (changed_order y price qty (new_stamp book moment)).rest (without y.rest book.orders)) ≤ 9_999
  few_changes session order moment price qty y found =
      let x = changed_order y price qty (new_stamp book moment) in
      let at = found_in (is_order session order) y book.orders found in
      let comes = comes_again y x book.orders is_book.once (record { ids = is_book.ids; few_of_each = is_book.few_of_each }) at refl refl in
      let few = few_trades x.rest (without y.rest book.orders) in
      omega (arith, few, comes.room)

  length_modification : (session order moment : ℕ) (price : ℤ) (qty : ℕ) (o : Option Order) → order_of book.orders session order ≡ o → length (modification book o moment price qty) ≤ 10_002
  length_modification session order moment price qty None found = omega arith
  length_modification session order moment price qty (Some y) found =
      let x = changed_order y price qty (new_stamp book moment) in
      let others = without y.rest book.orders in
      let few = few_changes session order moment price qty y found in
      let long = length_change book.roster.securities y x (trades x.rest others) others in
      elim (cases_Bool (keeps_priority y price qty)) [
        | inl kept ↦ rw kept (omega arith)
        | inr moves ↦ rw moves (omega (arith, few, long))
      ]

  length_change_notes : (session order moment : ℕ) (price : ℤ) (qty : ℕ) (o : Option Order) → order_of book.orders session order ≡ o → length (change_notes book o moment price qty) ≤ 9_999
  length_change_notes session order moment price qty None found = omega arith
  length_change_notes session order moment price qty (Some y) found =
      let x = changed_order y price qty (new_stamp book moment) in
      let ts = trades x.rest (without y.rest book.orders) in
      let few = few_changes session order moment price qty y found in
      let long = length_fills ts qty x.rest.qty in
      elim (cases_Bool (keeps_priority y price qty)) [
        | inl kept ↦ rw kept (omega arith)
        | inr moves ↦ rw moves (omega (arith, few, long))
      ]

  few_steps : (c : Command) → refusal book c ≡ None → length (steps book c) ≤ 10_002
  few_steps (command.New moment session security side price qty client) allowed =
      let x = new_order book moment session security side price qty in
      let few = few_trades x.rest book.orders in
      let room = room_of book.orders security allowed in
      let long = length_arrival book.roster.securities x (trades x.rest book.orders) book.orders in
      omega (arith, few, room, long)
  few_steps (command.Modify moment session order price qty client) allowed = length_modification session order moment price qty (order_of book.orders session order) refl
  few_steps (command.Delete moment session order client) allowed = let one = length_cancellation (order_of book.orders session order) book.orders in omega (arith, one)
  few_steps (command.DeleteAll moment session security) allowed =
      let gone = filter (is_of session security) book.orders in
      let long = length_deletions gone book.orders in
      let fewer = length_filter_more (is_of session security) (is_in security) (λ y h. (and_parts (y.owner == session) (is_in security y) h).1) book.orders in
      omega (arith, long, fewer, is_book.few_of_each security)
  few_steps (command.Clear moment security) allowed = omega arith

  few_notes : (c : Command) → length book.roster.sessions ≤ 9_999 → refusal book c ≡ None → length (notes_of book c) ≤ 9_999
  few_notes (command.New moment session security side price qty client) sessions allowed =
      let x = new_order book moment session security side price qty in
      let few = few_trades x.rest book.orders in
      let room = room_of book.orders security allowed in
      let long = length_fills (trades x.rest book.orders) qty qty in
      omega (arith, few, room, long)
  few_notes (command.Modify moment session order price qty client) sessions allowed = length_change_notes session order moment price qty (order_of book.orders session order) refl
  few_notes (command.Delete moment session order client) sessions allowed = omega arith
  few_notes (command.DeleteAll moment session security) sessions allowed = omega arith
  few_notes (command.Clear moment security) sessions allowed = let few = length_cleared book.roster.sessions security book.orders in omega (arith, few, sessions)

pub commands_are_short : CommandsAreShort
commands_are_short listing cs c product accepted =
    let parts = (accepted_more listing cs c).0 accepted in
    let book = left_by listing cs in
    let running = running_left listing cs parts.0 in
    let roster = left_roster (empty_book (roster_of listing)) cs in
    let sessions : length book.roster.sessions ≡ length listing.sessions = ap (λ r. length r.sessions) roster in
    let same = length-map (steps book c) (λ s. s.0) in
    let few = few_steps book running.list c parts.2.allowed in
    record {
      messages = omega (arith, few, same);
      notes = few_notes book running.list c (omega (arith, sessions, product.sessions.1)) parts.2.allowed;
    }
