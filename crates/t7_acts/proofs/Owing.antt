-- The datagrams that are due of messages, list by list.
use Rattle.std.proofs.Common.{◌≡◌, ◌∙◌, ℕ, ◌+◌, List, [], ◌∷◌, ◌++◌, length, refl, sym, ap, arith, append_assoc, length-append}
use Rattle.t7_base.specs.declared.public.Public.{Public}
use Rattle.t7_layout.specs.Layouts.{Layout}
use Rattle.t7_greedy.specs.Cuts.{cut, joined}
use Rattle.t7_packets.specs.Datagrams.{shipped}
use Rattle.t7_eobi.specs.Sizes.{message_size}
use Rattle.t7_packets.specs.Packing.{Datagram, numbered, room_in}
use Rattle.t7_entry.specs.Days.{due_from}
use Rattle.t7_acts.proofs.Lives.{shipped_count}

pub joined_both : (xs ys : List (List Public)) → length (joined (xs ++ ys)) ≡ length (joined xs) + length (joined ys)
joined_both [] ys = (let e : length (joined ys) ≡ 0 + length (joined ys) = omega arith in e)
joined_both (x ∷ xs) ys =
    let rest = joined_both xs ys in
    let left = length-append x (joined (xs ++ ys)) in
    let right = length-append x (joined xs) in
    omega (arith, rest, left, right)

-- how many items datagrams have
abbrev pub items_of : List Datagram → ℕ
items_of [] = 0
items_of (d ∷ ds) = length d.items + items_of ds

items_both : (xs ys : List Datagram) → items_of (xs ++ ys) ≡ items_of xs + items_of ys
items_both [] ys = (let e : items_of ys ≡ 0 + items_of ys = omega arith in e)
items_both (x ∷ xs) ys = (let rest = items_both xs ys in omega (arith, rest))

numbered_count : (first : ℕ) (xs : List Public) → length (numbered first xs) ≡ length xs
numbered_count first [] = refl
numbered_count first (x ∷ xs) = (let rest = numbered_count (first + 1) xs in omega (arith, rest))

shipped_items : (number first : ℕ) (runs : List (List Public)) → items_of (shipped number first runs) ≡ length (joined runs)
shipped_items number first [] = refl
shipped_items number first (run ∷ runs) =
    let rest = shipped_items (number + 1) (first + length run) runs in
    let one = numbered_count first run in
    let both = length-append run (joined runs) in
    omega (arith, rest, one, both)

-- a cut has all messages
abbrev pub CutsAll : Type 0
CutsAll = (size : Public → ℕ) (room : ℕ) (messages : List Public) → joined (cut size room messages) ≡ messages

module _ (layouts : List Layout) (limit : ℕ) where
  -- an item for each message
  pub due_items : CutsAll → (number first : ℕ) (xs : List (List Public)) → items_of (due_from layouts limit number first xs) ≡ length (joined xs)
  due_items all number first [] = refl
  due_items all number first (ms ∷ xs) =
      let runs = cut (message_size layouts) (room_in layouts limit) ms in
      let rest = due_from layouts limit (number + length runs) (first + length ms) xs in
      let later = due_items all (number + length runs) (first + length ms) xs in
      let both = items_both (shipped number first runs) rest in
      let here = shipped_items number first runs in
      let whole = ap (λ (l : List Public). length l) (all (message_size layouts) (room_in layouts limit) ms) in
      let sum = length-append ms (joined xs) in
      omega (arith, later, both, here, whole, sum)

  -- what is due of lists of messages after others
  pub due_both : (number first : ℕ) (xs ys : List (List Public))
      → due_from layouts limit number first (xs ++ ys)
      ≡ due_from layouts limit number first xs ++ due_from layouts limit (number + length (due_from layouts limit number first xs)) (first + length (joined xs)) ys
  due_both number first [] ys =
      let n : number ≡ number + 0 = omega arith in
      let f : first ≡ first + 0 = omega arith in
      ap (λ k. due_from layouts limit k first ys) n ∙ ap (λ k. due_from layouts limit (number + 0) k ys) f
  due_both number first (ms ∷ xs) ys =
      let runs = cut (message_size layouts) (room_in layouts limit) ms in
      let ds = shipped number first runs in
      let rest = due_from layouts limit (number + length runs) (first + length ms) xs in
      let n : number + length runs + length rest ≡ number + length (ds ++ rest) = (let k = shipped_count number first runs in let l = length-append ds rest in omega (arith, k, l)) in
      let f : first + length ms + length (joined xs) ≡ first + length (joined (ms ∷ xs)) = (let l = length-append ms (joined xs) in omega (arith, l)) in
      ap (λ l. ds ++ l) (due_both (number + length runs) (first + length ms) xs ys)
      ∙ sym (append_assoc ds rest _)
      ∙ ap (λ k. (ds ++ rest) ++ due_from layouts limit k (first + length ms + length (joined xs)) ys) n
      ∙ ap (λ k. (ds ++ rest) ++ due_from layouts limit (number + length (ds ++ rest)) k ys) f
