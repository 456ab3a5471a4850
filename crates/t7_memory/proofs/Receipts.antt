-- The receipts of one call more.
use Rattle.std.proofs.Common.{◌≡◌, ℕ, zero, suc, drop, length-append, List, [], ◌∷◌, ◌++◌, Some, None, true, false, ◌<◌, ◌≤◌, nat_lt, length, get_or, slice_get, Option, refl, sym, ◌∙◌, ap, arith}
use Rattle.std.proofs.lemmas.Bool.Decides.{nat_tests}
use Rattle.std.proofs.lemmas.Option.{slice_get-get_or, slice_get_past}
use Rattle.t7_net.specs.declared.line.LineItem.{LineItem}
use Rattle.t7_net.specs.declared.line.LineItem.TheVariants as line
use Rattle.t7_memory.specs.LinesStates.{cut_receipt, receipts_of}

-- a receipt more
pub receipts_more : (items : List LineItem) (counts : List ℕ) (count : ℕ)
    → receipts_of items (counts ++ count ∷ []) ≡ receipts_of items counts ++ cut_receipt (slice_get items (length counts)) count ∷ []
receipts_more [] [] count = refl
receipts_more (first ∷ items) [] count = refl
receipts_more [] (n ∷ counts) count = ap (λ (l : List LineItem). line.Quiet ∷ l) (receipts_more [] counts count)
receipts_more (first ∷ items) (n ∷ counts) count = ap (λ (l : List LineItem). cut_receipt (Some first) n ∷ l) (receipts_more items counts count)

drop_more : (n : ℕ) (items : List LineItem) → drop (suc n) items ≡ drop 1 (drop n items)
drop_more zero items = refl
drop_more (suc n) [] = refl
drop_more (suc n) (first ∷ items) = drop_more n items

-- one receipt fewer is left
pub left_more : (items : List LineItem) (counts : List ℕ) (count : ℕ) → drop (length (counts ++ count ∷ [])) items ≡ drop 1 (drop (length counts) items)
left_more items counts count =
    let longer : length (counts ++ count ∷ []) ≡ suc (length counts) = omega (arith, length-append counts (count ∷ [])) in
    rw longer (drop_more (length counts) items)

-- the first of what is left
pub first_behind : (items : List LineItem) (n : ℕ) → slice_get (drop n items) 0 ≡ slice_get items n
first_behind items zero = refl
first_behind [] (suc n) = refl
first_behind (first ∷ items) (suc n) = first_behind items n

-- what a look-up found
pub line_at : (xs : List LineItem) (i : ℕ) (x d : LineItem) → true ≡ nat_lt i (length xs) → x ≡ get_or xs i d → slice_get xs i ≡ Some x
line_at xs i x d inside read =
    let below : i < length xs = grind (arith, nat_tests) in
    slice_get-get_or xs i d below ∙ ap (λ (l : LineItem). let o : Option LineItem = Some l in o) (sym read)

-- what a look-up didn't find
pub no_line_at : (xs : List LineItem) (i : ℕ) → false ≡ nat_lt i (length xs) → slice_get xs i ≡ None
no_line_at xs i past =
    let above : length xs ≤ i = grind (arith, nat_tests) in
    slice_get_past xs i above
