-- The list after each message of accepted commands, and after each trade, is a book; and what a command more gives.
use Rattle.std.proofs.Common.{◌≡◌, ◌-◌, ◌<◌, ℤ, true, false, not, cond, List, [], ◌∷◌, ◌++◌, length, refl, ap, sym, subst, ◌∙◌, append-nil, arith}
use Rattle.std.specs.Prelude.{◌↔◌}
use Rattle.std.proofs.lemmas.List.{length-append}
use Rattle.t7_base.specs.Listing.{Listing}
use Rattle.t7_book.specs.declared.order.Order.{Order}
use Rattle.t7_book.specs.declared.trade.Trade.{Trade}
use Rattle.t7_book.specs.declared.command.Command.{Command}
use Rattle.t7_book.specs.Orders.{BookState, Roster, empty_book, renewed, roster_of, same_name, with_left, without}
use Rattle.t7_book.specs.Trades.{after_trade, crosses, is_used_up}
use Rattle.t7_book.specs.Steps.{Effect, book_after, steps}
use Rattle.t7_book.specs.Trace.{AreAccepted, AreAcceptedFrom, book_left, market, trace, trace_from}
use Rattle.t7_book.specs.Laws.{CommandsAddTheirSteps, Each, Distinct, IsAccepted, IsBook, IsInOrder, IsWhole, MarketsAreBooks, TradesLeaveBooks, left_by, trade_with}
use Rattle.t7_book.specs.Sound.{IsRunning}
use Rattle.t7_book.proofs.Fit.{Known, whole_left}
use Rattle.t7_book.proofs.InOrder.{Requantifies, in_order_filter, in_order_renewed}
use Rattle.t7_book.proofs.Lists.{IsIn, each_at, each_filter, each_renewed, each_weaker, found_in, only_named}
use Rattle.t7_book.proofs.Named.{IsNamed, distinct_after, named_after}
use Rattle.t7_book.proofs.NamedDay.{list_of, named_trace}
use Rattle.t7_book.proofs.NextBook.{running_next}
use Rattle.t7_book.proofs.RunningDay.{Any, any_links, fit_at, run_day}
use Rattle.t7_book.proofs.StepLemmas.{length_after_trade}
use Rattle.t7_book.proofs.TraceLemmas.{trace_from-append}

pub markets_are_books : MarketsAreBooks
markets_are_books listing cs accepted n =
    let roster = roster_of listing in
    let start = empty_book roster in
    let last = (book_left start cs).last_stamp in
    let fit = fit_at Any roster last [] (trace listing cs) n (run_day Any listing (any_links roster) cs accepted) in
    let none : IsNamed [] = record { ids = tt; few_of_each = λ security. omega arith } in
    let all = named_trace start cs (record { distinct = tt; in_order = tt; known = tt; few = omega arith }) (record { named = none; within = tt }) accepted.each in
    let named = list_of IsNamed (trace listing cs) [] n none all in
    record {
      in_order = fit.in_order;
      once = fit.distinct;
      ids = named.ids;
      whole = each_weaker (Known roster last) IsWhole (λ y known. known.whole) (market listing cs n) fit.known;
      few = fit.few;
      few_of_each = named.few_of_each;
    }

-- a trade
module _ (t : Trade) (orders : List Order) (at : IsIn t.maker orders) where
  abbrev rest : Order
  rest = with_left t.maker (t.maker.rest.qty - t.qty)

  in_order_after : (securities : List ℤ) → Distinct orders → IsInOrder securities orders → IsInOrder securities (after_trade t orders)
  in_order_after securities distinct h =
      let all : Each (Requantifies securities rest) orders =
      each_weaker (λ z. same_name t.maker.rest z.rest ≡ true → z ≡ t.maker) (Requantifies securities rest)
      (λ z only named. subst (λ (w : Order). rest.rest ≡ record w.rest { qty = rest.rest.qty }) (sym (only named)) refl) orders (only_named t.maker orders distinct at) in
      elim (is_used_up t) as (λ b. IsInOrder securities (cond b (without t.maker.rest orders) (renewed rest orders))) [
        | true ↦ in_order_filter securities (λ z. not (same_name t.maker.rest z.rest)) orders h
        | false ↦ in_order_renewed securities rest orders all h
      ]

  whole_after : Each IsWhole orders → Each IsWhole (after_trade t orders)
  whole_after whole =
      let maker = each_at IsWhole t.maker orders whole at in
      let left : IsWhole rest = whole_left t.maker (t.maker.rest.qty - t.qty) (omega (arith, maker.within)) in
      elim (is_used_up t) as (λ b. Each IsWhole (cond b (without t.maker.rest orders) (renewed rest orders))) [
        | true ↦ each_filter (λ z. not (same_name t.maker.rest z.rest)) IsWhole orders whole
        | false ↦ each_renewed IsWhole rest (λ z h. elim (same_name t.maker.rest z.rest) as (λ b. IsWhole (cond b rest z)) [ true ↦ left | false ↦ h ]) orders whole
      ]

  book_after_trade : (securities : List ℤ) → IsBook securities orders → IsBook securities (after_trade t orders)
  book_after_trade securities book =
      let named = named_after t orders at book.once (record { ids = book.ids; few_of_each = book.few_of_each }) in
      let fewer = length_after_trade t orders in
      record {
        in_order = in_order_after securities book.once book.in_order;
        once = distinct_after t orders book.once;
        ids = named.ids;
        whole = whole_after book.whole;
        few = omega (arith, fewer, book.few);
        few_of_each = named.few_of_each;
      }

pub trades_leave_books : TradesLeaveBooks
trades_leave_books securities x orders y book found =
    book_after_trade (trade_with x y) orders (found_in (λ z. crosses x z.rest) y orders found) securities book

-- a command more
left_more : (book : BookState) (cs : List Command) (c : Command) → book_left book (cs ++ c ∷ []) ≡ book_after (book_left book cs) c
left_more book [] c = refl
left_more book (x ∷ cs) c = left_more (book_after book x) cs c

accepted_parts : (book : BookState) (cs : List Command) (c : Command) → AreAcceptedFrom book (cs ++ c ∷ []) → AreAcceptedFrom book cs × IsAccepted (book_left book cs) c
accepted_parts book [] c all = (tt, record { for_product = all.0; allowed = all.1 })
accepted_parts book (x ∷ cs) c all =
    let parts = accepted_parts (book_after book x) cs c all.2 in
    ((all.0, all.1, parts.0), parts.1)

accepted_from : (book : BookState) (cs : List Command) (c : Command) → AreAcceptedFrom book cs → IsAccepted (book_left book cs) c → AreAcceptedFrom book (cs ++ c ∷ [])
accepted_from book [] c all one = (one.for_product, one.allowed, tt)
accepted_from book (x ∷ cs) c all one = (all.0, all.1, accepted_from (book_after book x) cs c all.2 one)

pub accepted_more : (listing : Listing) (cs : List Command) (c : Command) → AreAccepted listing (cs ++ c ∷ []) ↔ (AreAccepted listing cs × (length cs < 200_000) × IsAccepted (left_by listing cs) c)
accepted_more listing cs c =
    let start = empty_book (roster_of listing) in
    let long = length-append cs (c ∷ []) in (
      λ all.
          let parts = accepted_parts start cs c all.each in
          (record { few = omega (arith, long, all.few); each = parts.0 }, omega (arith, long, all.few), parts.1),
      λ all. record { few = omega (arith, long, all.1); each = accepted_from start cs c all.0.each all.2 },
    )

pub commands_add_their_steps : CommandsAddTheirSteps
commands_add_their_steps listing cs c =
    let start = empty_book (roster_of listing) in
    record {
      behind = trace_from-append start cs (c ∷ []) ∙ ap (λ (ss : List Effect). trace_from start cs ++ ss) (append-nil (steps (left_by listing cs) c));
      leaves = left_more start cs c;
      accepted = accepted_more listing cs c;
    }

-- the book that accepted commands leave
running_from : (book : BookState) (cs : List Command) → IsRunning book → AreAcceptedFrom book cs → IsRunning (book_left book cs)
running_from book [] running accepted = running
running_from book (c ∷ cs) running accepted = running_from (book_after book c) cs (running_next book c running accepted.0 accepted.1) accepted.2

pub none_running : (roster : Roster) → IsRunning (empty_book roster)
none_running roster = record {
  list = record { in_order = tt; once = tt; ids = tt; whole = tt; few = omega arith; few_of_each = λ security. omega arith };
  earlier = tt;
}

pub running_left : (listing : Listing) (cs : List Command) → AreAccepted listing cs → IsRunning (left_by listing cs)
running_left listing cs accepted = running_from (empty_book (roster_of listing)) cs (none_running (roster_of listing)) accepted.each

pub left_roster : (book : BookState) (cs : List Command) → (book_left book cs).roster ≡ book.roster
left_roster book [] = refl
left_roster book (c ∷ cs) = left_roster (book_after book c) cs
