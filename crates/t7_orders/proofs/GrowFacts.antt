-- Responses of commands, one after another, and those of one session.
use Rattle.std.proofs.Common.{◌≡◌, ℕ, ◌+◌, ◌==◌, Bool, true, false, cond, List, [], ◌∷◌, ◌++◌, length, map, refl, sym, ap, ◌∙◌, append_assoc, add-zero, eqb-true, length-append}
use Rattle.std.specs.List.{enumerate_from, filter}
use Rattle.std.proofs.lemmas.List.{map-append}
use Rattle.std.proofs.lemmas.List.Elements.{filter-append}
use Rattle.t7_eti.specs.declared.response.Kept.{Kept}
use Rattle.t7_book.specs.declared.command.Command.{Command}
use Rattle.t7_book.specs.Orders.{BookState, empty_book, roster_of}
use Rattle.t7_book.specs.Steps.{book_after}
use Rattle.t7_book.specs.Trace.{book_left}
use Rattle.t7_orders.specs.declared.response.Numbered.{Numbered}
use Rattle.t7_orders.specs.Answers.{Stored, answers_of, numbered, of_session, stored_from}
use Rattle.t7_orders.specs.Laws.{NumberedFromOne, ResponsesGrow, told}

stored_from-append : (book : BookState) (xs ys : List Command) → stored_from book (xs ++ ys) ≡ stored_from book xs ++ stored_from (book_left book xs) ys
stored_from-append book [] ys = refl
stored_from-append book (x ∷ xs) ys =
    ap (λ r. answers_of book x ++ r) (stored_from-append (book_after book x) xs ys)
    ∙ sym (append_assoc (answers_of book x) (stored_from (book_after book x) xs) (stored_from (book_left (book_after book x) xs) ys))

of_session-append : (s : ℕ) (xs ys : List Stored) → of_session s (xs ++ ys) ≡ of_session s xs ++ of_session s ys
of_session-append s xs ys =
    ap (map (λ (e : Stored). e.1)) (filter-append (λ (e : Stored). e.0 == s) xs ys)
    ∙ map-append (λ (e : Stored). e.1) (filter (λ (e : Stored). e.0 == s) xs) (filter (λ (e : Stored). e.0 == s) ys)

pub responses_grow : ResponsesGrow
responses_grow listing cs more session =
    let book = empty_book (roster_of listing) in
    let rest = stored_from (book_left book cs) more in (
      of_session session rest,
      sym (of_session-append session (stored_from book cs) rest) ∙ ap (of_session session) (sym (stored_from-append book cs more)),
    )

-- a response more behind others is one more of its session's, and none of another's
one_more : (before : List Stored) (e : Stored) (s : ℕ) (b : Bool) → (e.0 == s) ≡ b → length (of_session s (before ++ e ∷ [])) ≡ length (of_session s before) + cond b 1 0
one_more before e s b is =
    ap length (of_session-append s before (e ∷ [])) ∙ length-append (of_session s before) (of_session s (e ∷ []))
    ∙ ap (λ (l : List Stored). length (of_session s before) + length (map (λ (x : Stored). x.1) l)) (ap (λ t. cond t (e ∷ []) []) is) ∙ by_test b
  where
    by_test : (t : Bool) → length (of_session s before) + length (map (λ (x : Stored). x.1) (cond t (e ∷ []) [])) ≡ length (of_session s before) + cond t 1 0
    by_test true = refl
    by_test false = refl

-- responses behind others
numbered_behind : (before entries : List Stored) (s : ℕ) → told s (numbered before entries) ≡ enumerate_from (length (of_session s before) + 1) (of_session s entries)
numbered_behind before [] s = refl
numbered_behind before (e ∷ entries) s = by_test (e.0 == s) refl (numbered_behind (before ++ e ∷ []) entries s)
  where
    -- those that come behind it
    more : List Numbered
    more = filter (λ (r : Numbered). r.session == s) (numbered (before ++ e ∷ []) entries)

    told_first : (b : Bool) → (e.0 == s) ≡ b
        → told s (numbered before (e ∷ entries)) ≡ map (λ (r : Numbered). (r.number, r.what)) (cond b (record { session = e.0; number = length (of_session e.0 before) + 1; what = e.1 } ∷ more) more)
    told_first b is = ap (λ t. map (λ (r : Numbered). (r.number, r.what)) (cond t (record { session = e.0; number = length (of_session e.0 before) + 1; what = e.1 } ∷ more) more)) is

    kept_first : (b : Bool) → (e.0 == s) ≡ b → map (λ (x : Stored). x.1) (cond b (e ∷ filter (λ (x : Stored). x.0 == s) entries) (filter (λ (x : Stored). x.0 == s) entries)) ≡ of_session s (e ∷ entries)
    kept_first b is = ap (λ t. map (λ (x : Stored). x.1) (cond t (e ∷ filter (λ (x : Stored). x.0 == s) entries) (filter (λ (x : Stored). x.0 == s) entries))) (sym is)

    by_test : (b : Bool) → (e.0 == s) ≡ b → told s (numbered (before ++ e ∷ []) entries) ≡ enumerate_from (length (of_session s (before ++ e ∷ [])) + 1) (of_session s entries)
        → told s (numbered before (e ∷ entries)) ≡ enumerate_from (length (of_session s before) + 1) (of_session s (e ∷ entries))
    by_test true is rest =
        told_first true is
        ∙ ap (λ n. (length (of_session n before) + 1, e.1) ∷ told s (numbered (before ++ e ∷ []) entries)) (eqb-true e.0 s is)
        ∙ ap (λ (l : List (ℕ × Kept)). (length (of_session s before) + 1, e.1) ∷ l) (rest ∙ ap (λ n. enumerate_from (n + 1) (of_session s entries)) (one_more before e s true is))
        ∙ ap (enumerate_from (length (of_session s before) + 1)) (kept_first true is)
    by_test false is rest =
        told_first false is ∙ rest
        ∙ ap (λ n. enumerate_from (n + 1) (of_session s entries)) (one_more before e s false is ∙ add-zero (length (of_session s before)))
        ∙ ap (enumerate_from (length (of_session s before) + 1)) (kept_first false is)

pub numbered_from_one : NumberedFromOne
numbered_from_one entries session = numbered_behind [] entries session
