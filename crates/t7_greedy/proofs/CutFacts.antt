-- The greedy cut is greedy, is the only one, and loses nothing.
use Rattle.std.proofs.Common.{◌≡◌, ℕ, ◌+◌, ◌-◌, ◌<◌, ◌≤◌, ◌⊎◌, inl, inr, List, [], ◌∷◌, ◌++◌, true, false, nat_le, sum_by, zero, suc, length, get_or, take, drop, length-drop, refl, sym, ap, subst, ◌∙◌, arith, append_assoc}
use Rattle.std.proofs.lemmas.Bool.Decides.{nat_tests}
use Rattle.std.proofs.lemmas.List.{append-nil, drop_more, take-append-drop}
use Rattle.std.proofs.lemmas.List.Sums.{sum_by-cons, sum_by_push}
use Rattle.t7_greedy.specs.Cuts.{cut, cut_from, EachFits, IsFilled, IsGreedy, IsLongestRun, joined}

-- what the test of an order tells
pub at_most : (a b : ℕ) → ((nat_le a b ≡ true) × (a ≤ b)) ⊎ ((nat_le a b ≡ false) × (b < a))
at_most a b = grind (arith, nat_tests)

-- something stands where something is put at the end
pub filled_push : {M : Type 0} (xs : List M) (x : M) → IsFilled (xs ++ x ∷ [])
filled_push [] x = tt
filled_push (y ∷ xs) x = tt

module _ {M : Type 0} (size : M → ℕ) (room : ℕ) where
  -- a datagram that has begun goes on to the end of the run that still fits
  pub begun_run : (left : ℕ) (begun run rest : List M) → sum_by size run ≤ left → ((x : M) (others : List M) → rest ≡ x ∷ others → left < sum_by size run + size x)
      → cut_from size room begun left (run ++ rest) ≡ (begun ++ run) ∷ cut size room rest
  begun_run left begun [] [] fits full = ap (λ xs. xs ∷ []) (sym (append-nil begun))
  begun_run left begun [] (x ∷ others) fits full =
      elim (at_most (size x) left) [
        | inl e ↦ (let f = full x others refl in absurd (omega arith))
        | inr o ↦ rw o.0 (ap (λ xs. xs ∷ cut_from size room (x ∷ []) (room - size x) others) (sym (append-nil begun)))
      ]
  begun_run left begun (x ∷ run) rest fits full =
      let c : sum_by size (x ∷ run) ≡ size x + sum_by size run = sum_by-cons size x run in
      elim (at_most (size x) left) [
        | inl e ↦ rw e.0 (begun_run (left - size x) (begun ++ x ∷ []) run rest (omega arith) (λ y others is. (let f = full y others is in omega arith))
            ∙ ap (λ xs. xs ∷ cut size room rest) (append_assoc begun (x ∷ []) run))
        | inr o ↦ absurd (omega arith)
      ]

  -- the cut begins with the longest run, and goes on with the cut of what that leaves
  pub first_run : (messages run left : List M) → IsLongestRun size room messages run left → cut size room messages ≡ run ∷ cut size room left
  first_run messages [] left r = absurd r.filled
  first_run messages (x ∷ run) left r =
      let f = r.fits in
      let c : sum_by size (x ∷ run) ≡ size x + sum_by size run = sum_by-cons size x run in
      ap (λ xs. cut size room xs) r.split ∙ begun_run (room - size x) (x ∷ []) run left (omega arith) (λ y others is. (let g = r.full y others is in omega arith))

  -- greedy datagrams are the cut
  pub only_cut : (messages : List M) (runs : List (List M)) → IsGreedy size room messages runs → runs ≡ cut size room messages
  only_cut messages [] g = ap (λ xs. cut size room xs) (sym g)
  only_cut messages (run ∷ runs) g = ap (λ xs. run ∷ xs) (only_cut g.0 runs g.2) ∙ sym (first_run messages run g.0 g.1)

  -- the cut of what follows a datagram that has begun is greedy
  pub cut_from_greedy : (begun : List M) (left : ℕ) (xs : List M) → left + sum_by size begun ≡ room → IsFilled begun → EachFits size room xs
      → IsGreedy size room (begun ++ xs) (cut_from size room begun left xs)
  cut_from_greedy begun left [] sum filled fits =
      ([], record { split = refl; fits = omega arith; full = λ x others is. absurd (cc is); filled = filled }, refl)
  cut_from_greedy begun left (x ∷ xs) sum filled fits =
      elim (at_most (size x) left) [
        | inl e ↦ rw e.0 (subst (λ ys. IsGreedy size room ys (cut_from size room (begun ++ x ∷ []) (left - size x) xs)) (append_assoc begun (x ∷ []) xs)
            (cut_from_greedy (begun ++ x ∷ []) (left - size x) xs (let s = sum_by_push size begun x in omega arith) (filled_push begun x) fits.1))
        | inr o ↦ rw o.0 (
          x ∷ xs,
          record { split = refl; fits = omega arith; full = λ y others is. (let same : x ≡ y = cc is in let g = ap size same in omega arith); filled = filled },
          cut_from_greedy (x ∷ []) (room - size x) xs (let s = sum_by-cons size x [] in let f = fits.0 in omega arith) tt fits.1,
        )
      ]

  -- the cut is greedy
  pub cut_greedy : (messages : List M) → EachFits size room messages → IsGreedy size room messages (cut size room messages)
  cut_greedy [] fits = refl
  cut_greedy (x ∷ xs) fits = cut_from_greedy (x ∷ []) (room - size x) xs (let s = sum_by-cons size x [] in let f = fits.0 in omega arith) tt fits.1

  -- greedy datagrams have the messages, each once and in order
  pub greedy_whole : (messages : List M) (runs : List (List M)) → IsGreedy size room messages runs → joined runs ≡ messages
  greedy_whole messages [] g = sym g
  greedy_whole messages (run ∷ runs) g = ap (λ xs. run ++ xs) (greedy_whole g.0 runs g.2) ∙ sym g.1.split

  -- a datagram that has begun and the cut of what follows have all messages
  pub cut_from_whole : (begun : List M) (left : ℕ) (xs : List M) → joined (cut_from size room begun left xs) ≡ begun ++ xs
  cut_from_whole begun left [] = refl
  cut_from_whole begun left (x ∷ xs) =
      elim (at_most (size x) left) [
        | inl e ↦ rw e.0 (cut_from_whole (begun ++ x ∷ []) (left - size x) xs ∙ append_assoc begun (x ∷ []) xs)
        | inr o ↦ rw o.0 (ap (λ ys. begun ++ ys) (cut_from_whole (x ∷ []) (room - size x) xs))
      ]

  -- the cut has all messages, also where one doesn't fit
  pub cut_whole : (messages : List M) → joined (cut size room messages) ≡ messages
  cut_whole [] = refl
  cut_whole (x ∷ xs) = cut_from_whole (x ∷ []) (room - size x) xs

-- something stands in the front of a list
pub filled_take : {M : Type 0} (xs : List M) (n : ℕ) → 0 < n → n ≤ length xs → IsFilled (take n xs)
filled_take xs zero some within = absurd (omega arith)
filled_take [] (suc n) some within = absurd (omega arith)
filled_take (x ∷ xs) (suc n) some within = tt

-- what is left of a list begins with the element at its place
pub first_left : {M : Type 0} (xs : List M) (n : ℕ) (d next : M) (others : List M) → drop n xs ≡ next ∷ others → (n < length xs) × (get_or xs n d ≡ next)
first_left xs n d next others is =
    let counts = ap length is in
    let more : n < length xs = omega (arith, length-drop n xs, counts) in
    let begins = sym (drop_more xs n d more) ∙ is in
    (more, cc begins)

-- the first messages are the longest run where they fit and, if one follows, that one would not fit too
pub taken_run : {M : Type 0} (size : M → ℕ) (room : ℕ) (messages : List M) (used : ℕ) (d : M) → 0 < used → used ≤ length messages → sum_by size (take used messages) ≤ room
    → (used < length messages → room < sum_by size (take used messages) + size (get_or messages used d)) → IsLongestRun size room messages (take used messages) (drop used messages)
taken_run size room messages used d some within fits full = record {
  split = sym (take-append-drop used messages);
  fits = fits;
  full = λ next others is. (let f = first_left messages used d next others is in subst (λ m. room < sum_by size (take used messages) + size m) f.1 (full f.0));
  filled = filled_take messages used some within;
}
