-- The live datagrams of acts one after another.
use Rattle.std.proofs.Common.{◌≡◌, ◌∙◌, ℕ, ◌+◌, ◌-◌, List, [], ◌∷◌, ◌++◌, length, refl, sym, ap, arith, append_assoc, length-append}
use Rattle.std.proofs.lemmas.List.{length-map}
use Rattle.t7_base.specs.declared.public.Public.{Public}
use Rattle.t7_layout.specs.Layouts.{Layout}
use Rattle.t7_book.specs.Acts.{Act, Accepts, Beats, Snaps, commands_of}
use Rattle.t7_book.specs.Orders.{BookState}
use Rattle.t7_book.specs.Steps.{Effect, book_after, messages, steps}
use Rattle.t7_book.specs.Trace.{book_left, trace_from}
use Rattle.t7_greedy.specs.Cuts.{cut}
use Rattle.t7_packets.specs.Datagrams.{live_from, shipped}
use Rattle.t7_eobi.specs.Sizes.{message_size}
use Rattle.t7_packets.specs.Packing.{of_beat, room_in}

-- a datagram for each run
pub shipped_count : (number first : ℕ) (runs : List (List Public)) → length (shipped number first runs) ≡ length runs
shipped_count number first [] = refl
shipped_count number first (run ∷ runs) = (let rest = shipped_count (number + 1) (first + length run) runs in omega (arith, rest))

module _ (layouts : List Layout) (limit : ℕ) where
  -- what acts send after others: they begin at the book, the datagram and the message that those before them leave
  pub live_both : (book : BookState) (number first : ℕ) (acts more : List Act)
      → live_from layouts limit book number first (acts ++ more)
      ≡ live_from layouts limit book number first acts
      ++ live_from layouts limit (book_left book (commands_of acts)) (number + length (live_from layouts limit book number first acts)) (first + length (trace_from book (commands_of acts))) more
  live_both book number first [] more =
      let n : number ≡ number + 0 = omega arith in
      let f : first ≡ first + 0 = omega arith in
      ap (λ k. live_from layouts limit book k first more) n ∙ ap (λ k. live_from layouts limit book (number + 0) k more) f
  live_both book number first (Accepts c ∷ acts) more =
      let told = messages (steps book c) in
      let runs = cut (message_size layouts) (room_in layouts limit) told in
      let ds = shipped number first runs in
      let next = book_after book c in
      let rest = live_from layouts limit next (number + length runs) (first + length told) acts in
      let last = book_left next (commands_of acts) in
      let n : number + length runs + length rest ≡ number + length (ds ++ rest) = (let k = shipped_count number first runs in let l = length-append ds rest in omega (arith, k, l)) in
      let f : first + length told + length (trace_from next (commands_of acts)) ≡ first + length (steps book c ++ trace_from next (commands_of acts)) =
      (let k = length-map (steps book c) (λ (s : Effect). s.0) in let l = length-append (steps book c) (trace_from next (commands_of acts)) in omega (arith, k, l)) in
      ap (λ l. ds ++ l) (live_both next (number + length runs) (first + length told) acts more)
      ∙ sym (append_assoc ds rest _)
      ∙ ap (λ k. (ds ++ rest) ++ live_from layouts limit last k (first + length told + length (trace_from next (commands_of acts))) more) n
      ∙ ap (λ k. (ds ++ rest) ++ live_from layouts limit last (number + length (ds ++ rest)) k more) f
  live_both book number first (Beats ∷ acts) more =
      let rest = live_from layouts limit book (number + 1) first acts in
      let last = book_left book (commands_of acts) in
      let n : number + 1 + length rest ≡ number + length (of_beat number (first - 1) ∷ rest) = omega arith in
      ap (λ l. of_beat number (first - 1) ∷ l)
      (live_both book (number + 1) first acts more ∙ ap (λ k. rest ++ live_from layouts limit last k (first + length (trace_from book (commands_of acts))) more) n)
  live_both book number first (Snaps ∷ acts) more = live_both book number first acts more
