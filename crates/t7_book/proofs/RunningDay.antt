-- The steps of a day's commands lead from list to list, and each of the lists is fit.
use Rattle.std.proofs.Common.{◌≡◌, ℕ, ◌<◌, ◌≤◌, zero, suc, ℤ, pos, true, false, not, cond, List, [], ◌∷◌, Option, Some, None, refl, ap, arith}
use Rattle.std.specs.List.{filter}
use Rattle.t7_base.specs.Listing.{Listing}
use Rattle.t7_base.specs.declared.public.Public.{Public}
use Rattle.t7_base.specs.declared.public.Public.TheVariants.{SamePriority}
use Rattle.t7_book.specs.declared.order.Order.{Order}
use Rattle.t7_book.specs.declared.command.Command.{Command}
use Rattle.t7_book.specs.declared.command.Command.TheVariants as command
use Rattle.t7_book.specs.Orders.{Roster, roster_of, BookState, empty_book, same_name, without, renewed, order_of, is_order, is_in, is_of}
use Rattle.t7_book.specs.Commands.{IsForProduct, new_stamp, new_order, keeps_priority, with_total, changed_order, refusal, change_refusal}
use Rattle.t7_book.specs.Trades.{trades}
use Rattle.t7_book.specs.Steps.{Effect, change, modification, steps, stamp_after_change, last_stamp_after, book_after}
use Rattle.t7_book.specs.Trace.{trace, trace_from, book_left, list_at, AreAcceptedFrom, AreAccepted}
use Rattle.t7_book.specs.Laws.{IsWhole}
use Rattle.t7_book.proofs.TradeLemmas.{length_without}
use Rattle.t7_book.proofs.Lists.{IsIn, each_at, each_filter, distinct_filter, found_in}
use Rattle.t7_book.proofs.Fit.{Known, IsFit, fit_filter, fit_renewed, whole_total}
use Rattle.t7_book.proofs.Makers.{trades_makers, each_in}
use Rattle.t7_book.proofs.Running.{Links, Run, run_append, run_change, run_arrival, run_cancellation, run_deletions, gone_from, room_from, above_from}

-- the steps of a modification that keeps the priority
abbrev steps_kept : BookState → Order → ℕ → List Effect
steps_kept book y qty = (SamePriority y.rest.security y.rest.side y.rest.stamp y.rest.price y.rest.qty (with_total y qty).rest.qty, renewed (with_total y qty) book.orders) ∷ []

abbrev pub BookFits : BookState → Type 0
BookFits book = IsFit book.roster book.last_stamp book.orders

later_stamp : (book : BookState) (moment : ℕ) → book.last_stamp < new_stamp book moment
later_stamp book moment = omega arith

-- the stamps rise
stamps_rise_change : (book : BookState) (o : Option Order) (moment : ℕ) (price : ℤ) (qty : ℕ) → book.last_stamp ≤ stamp_after_change book o moment price qty
stamps_rise_change book None moment price qty = omega arith
stamps_rise_change book (Some y) moment price qty = elim (keeps_priority y price qty) as (λ b. book.last_stamp ≤ cond b book.last_stamp (new_stamp book moment)) [ true ↦ omega arith | false ↦ omega arith ]

stamps_rise : (book : BookState) (c : Command) → book.last_stamp ≤ last_stamp_after book c
stamps_rise book (command.New moment session security side price qty client) = omega arith
stamps_rise book (command.Modify moment session order price qty client) = stamps_rise_change book (order_of book.orders session order) moment price qty
stamps_rise book (command.Delete moment session order client) = omega arith
stamps_rise book (command.DeleteAll moment session security) = omega arith
stamps_rise book (command.Clear moment security) = omega arith

all_rise : (book : BookState) (cs : List Command) → book.last_stamp ≤ (book_left book cs).last_stamp
all_rise book [] = omega arith
all_rise book (c ∷ cs) =
    let first = stamps_rise book c in
    let rest = all_rise (book_after book c) cs in
    omega arith

module _ (R : List Order → Public → List Order → Type 0) where
  run_modification : (book : BookState) → Links book.roster R → (moment session id : ℕ) (price : ℤ) (qty : ℕ) (o : Option Order) → BookFits book → order_of book.orders session id ≡ o
      → change_refusal o qty ≡ None → Run book.roster R (stamp_after_change book o moment price qty) book.orders (modification book o moment price qty)
  run_modification book links moment session id price qty None fit found accepted = fit
  run_modification book links moment session id price qty (Some y) fit found accepted =
      let last = book.last_stamp in
      let stamp = new_stamp book moment in
      let at = found_in (is_order session id) y book.orders found in
      let shorter = length_without (is_order session id) y book.orders found in
      let le = above_from y qty accepted in
      let others = fit_filter book.roster last (λ z. not (same_name y.rest z.rest)) book.orders fit in
      let known = each_at (Known book.roster last) y book.orders fit.known at in
      let x = changed_order y price qty stamp in
      let ts = trades x.rest (without y.rest book.orders) in
      elim (keeps_priority y price qty) as (λ b. Run book.roster R (cond b last stamp) book.orders (cond b (steps_kept book y qty) (change book.roster.securities y x ts (without y.rest book.orders)))) [
        | true ↦ (fit, links.same last book.orders fit y at qty, fit_renewed book.roster last (with_total y qty) y book.orders at refl (whole_total y qty known.whole le) fit)
        | false ↦ run_change book.roster R links last y price qty stamp book.orders (omega arith) at le (omega (arith, shorter, fit.few)) fit ts (trades_makers x.rest (without y.rest book.orders) others.distinct)
      ]

  -- the steps of a command
  pub run_steps : (book : BookState) → Links book.roster R → (c : Command) → BookFits book → IsForProduct book.roster c → refusal book c ≡ None
      → Run book.roster R (last_stamp_after book c) book.orders (steps book c)
  run_steps book links (command.New moment session security side price qty client) fit product accepted =
      let x = new_order book moment session security side price qty in
      let whole : IsWhole x = record { within = omega arith; executed = ap pos (omega arith) } in
      run_arrival book.roster R links book.last_stamp x (omega arith) product.1 whole (trades x.rest book.orders) book.orders (room_from book.orders security accepted) fit
      (trades_makers x.rest book.orders fit.distinct)
  run_steps book links (command.Modify moment session order price qty client) fit product accepted =
      run_modification book links moment session order price qty (order_of book.orders session order) fit refl accepted
  run_steps book links (command.Delete moment session order client) fit product accepted =
      run_cancellation book.roster R links book.last_stamp session order book.orders (order_of book.orders session order) fit refl
  run_steps book links (command.DeleteAll moment session security) fit product accepted =
      let p = is_of session security in
      run_deletions book.roster R links book.last_stamp (filter p book.orders) book.orders fit
      (gone_from (filter p book.orders) book.orders (distinct_filter p book.orders fit.distinct) (each_filter p (λ y. IsIn y book.orders) book.orders (each_in book.orders)))
  run_steps book links (command.Clear moment security) fit product accepted =
      (fit, links.mass book.last_stamp book.orders fit security product, fit_filter book.roster book.last_stamp (λ y. not (is_in security y)) book.orders fit)

  -- the steps of some commands
  run_trace : (book : BookState) → Links book.roster R → (cs : List Command) → BookFits book → AreAcceptedFrom book cs → Run book.roster R (book_left book cs).last_stamp book.orders (trace_from book cs)
  run_trace book links [] fit accepted = fit
  run_trace book links (c ∷ cs) fit accepted =
      run_append book.roster R links (last_stamp_after book c) (book_left book (c ∷ cs)).last_stamp book.orders (steps book c) (trace_from (book_after book c) cs) (all_rise (book_after book c) cs)
      (run_steps book links c fit accepted.0 accepted.1) (λ left. run_trace (book_after book c) links cs left accepted.2)

  -- the steps of a day
  pub run_day : (listing : Listing) → Links (roster_of listing) R → (cs : List Command) → AreAccepted listing cs → Run (roster_of listing) R (book_left (empty_book (roster_of listing)) cs).last_stamp [] (trace listing cs)
  run_day listing links cs accepted = run_trace (empty_book (roster_of listing)) links cs (record { distinct = tt; in_order = tt; known = tt; few = omega arith }) accepted.each

  module _ (roster : Roster) (last : ℕ) where
    fit_now : (orders : List Order) (ss : List Effect) → Run roster R last orders ss → IsFit roster last orders
    fit_now orders [] run = run
    fit_now orders (s ∷ ss) run = run.0

    -- each list on the way is fit
    pub fit_at : (orders : List Order) (ss : List Effect) (n : ℕ) → Run roster R last orders ss → IsFit roster last (list_at orders ss n)
    fit_at orders ss zero run = fit_now orders ss run
    fit_at orders [] (suc n) run = run
    fit_at orders (s ∷ ss) (suc n) run = fit_at s.1 ss n run.2

-- the relation that always holds
abbrev pub Any : List Order → Public → List Order → Type 0
Any before message after = Unit {0}

pub any_links : (roster : Roster) → Links roster Any
any_links roster = record {
  add = λ last orders fit x above listed room. tt;
  summary = λ last orders fit security side stamp qty price listed. tt;
  mass = λ last orders fit security listed. tt;
  delete = λ last orders fit y at. tt;
  full = λ last orders fit y at qty all. tt;
  part = λ last orders fit y at qty less. tt;
  same = λ last orders fit y at qty. tt;
  modify = λ last orders fit y at price total stamp above. tt;
}
