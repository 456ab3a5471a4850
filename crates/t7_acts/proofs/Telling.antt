-- The messages that an event tells are those of the commands that it adds.
use Rattle.std.proofs.Common.{◌≡◌, ◌∙◌, ◌+◌, List, [], ◌∷◌, ◌++◌, length, refl, ap, arith, length-append}
use Rattle.std.proofs.lemmas.List.{length-map}
use Rattle.t7_base.specs.declared.public.Public.{Public}
use Rattle.t7_book.specs.declared.command.Command.{Command}
use Rattle.t7_book.specs.Orders.{BookState, empty_book, roster_of}
use Rattle.t7_book.specs.Steps.{Effect, book_after, messages, steps}
use Rattle.t7_book.specs.Trace.{book_left, trace, trace_from}
use Rattle.t7_greedy.specs.Cuts.{joined}
use Rattle.t7_entry.specs.State.{Doing, Setting, book_of}
use Rattle.t7_entry.specs.Events.{Event, Result, happens}
use Rattle.t7_entry.specs.Days.{Day, before_others, day_after, due, due_from, first_of, last_of, told_by, told_in}
use Rattle.t7_acts.specs.Added.{Adds, added_by}

joined_before : (ms : List Public) (others : List (List Public)) → length (joined (before_others ms others)) ≡ length ms + length (joined others)
joined_before [] others = (let e : length (joined others) ≡ 0 + length (joined others) = omega arith in e)
joined_before (m ∷ ms) others = length-append (m ∷ ms) (joined others)

-- as many messages are told as commands give
told_count : (book : BookState) (cs : List Command) → length (joined (told_by book cs)) ≡ length (trace_from book cs)
told_count book [] = refl
told_count book (c ∷ cs) =
    let next = book_after book c in
    let front = joined_before (messages (steps book c)) (told_by next cs) in
    let rest = told_count next cs in
    let many = length-map (steps book c) (λ (s : Effect). s.0) in
    let both = length-append (steps book c) (trace_from next cs) in
    omega (arith, front, rest, many, both)

trace_both : (book : BookState) (cs more : List Command) → length (trace_from book (cs ++ more)) ≡ length (trace_from book cs) + length (trace_from (book_left book cs) more)
trace_both book [] more = (let e : length (trace_from book more) ≡ 0 + length (trace_from book more) = omega arith in e)
trace_both book (c ∷ cs) more =
    let next = book_after book c in
    let rest = trace_both next cs more in
    let left = length-append (steps book c) (trace_from next (cs ++ more)) in
    let right = length-append (steps book c) (trace_from next cs) in
    omega (arith, rest, left, right)

-- the trace grows by the messages that are told
pub trace_grows : (setting : Setting) (before after cs : List Command) (doings : List Doing) → Adds setting before after doings cs
    → length (trace setting.listing after) ≡ length (trace setting.listing before) + length (joined (told_in doings))
trace_grows setting before after cs doings adds =
    let book = empty_book (roster_of setting.listing) in
    let both = trace_both book before cs in
    let count = told_count (book_left book before) cs in
    let is = ap (λ (l : List Command). length (trace_from book l)) adds.accepted in
    let told = ap (λ (l : List (List Public)). length (joined l)) adds.told in
    omega (arith, both, count, is, told)

module _ (day : Day) (event : Event) where
  abbrev result : Result
  result = happens day.setting day.state event

  abbrev pub Added : Type 0
  Added = Adds day.setting day.state.core.accepted result.state.core.accepted result.doings (added_by day.setting day.state event)

  pub last_grows : Added → last_of (day_after day event) ≡ last_of day + length (joined (told_in result.doings))
  last_grows adds = trace_grows day.setting day.state.core.accepted result.state.core.accepted (added_by day.setting day.state event) result.doings adds

  pub first_follows : Added → day.untold ≡ [] → first_of (day_after day event) ≡ last_of day + 1
  first_follows adds none =
      let last = last_grows adds in
      let left : length (joined (day.untold ++ told_in result.doings)) ≡ length (joined (told_in result.doings)) = ap (λ (l : List (List Public)). length (joined (l ++ told_in result.doings))) none in
      omega (arith, last, left)

  pub due_follows : Added → day.untold ≡ []
      → due (day_after day event)
      ≡ due_from day.setting.layouts day.setting.listing.datagram (day.live + 1) (last_of day + 1) (told_by (book_of day.setting day.state.core.accepted) (added_by day.setting day.state event))
  due_follows adds none =
      let layouts = day.setting.layouts in
      let limit = day.setting.listing.datagram in
      ap (λ n. due_from layouts limit (day.live + 1) n (day.untold ++ told_in result.doings)) (first_follows adds none)
      ∙ ap (λ (l : List (List Public)). due_from layouts limit (day.live + 1) (last_of day + 1) (l ++ told_in result.doings)) none
      ∙ ap (λ l. due_from layouts limit (day.live + 1) (last_of day + 1) l) adds.told
