-- The rows of a template, one further row at a time.
use Rattle.std.proofs.Common.{◌≡◌, ◌<◌, ◌≤◌, ◌+◌, ◌-◌, ◌||◌, ◌∙◌, ℕ, zero, suc, List, [], ◌∷◌, ◌++◌, Bool, true, false, length, take, drop, refl, ap, sym, arith, add-one, append_assoc, length-take, drop-cons, nat_lt}
use Rattle.std.proofs.lemmas.Bool.Decides.{nat_tests}
use Rattle.std.proofs.lemmas.List.{append-nil, drop_all, drop-append-le, get_or-take}
use Rattle.std.specs.List.{list_any}
use Rattle.t7_records.specs.Records.{Record, record_at}
use Rattle.std.proofs.Math.Seq.{take-suc}
use Rattle.t7_layout.specs.Faults.{fails_overlap}
use Rattle.t7_layout.specs.Rows.{begins, earlier_in, end_before, row_end, row_offset, row_width, so_far}

pub any_end : (p : Record → Bool) (xs : List Record) (x : Record) → list_any p (xs ++ x ∷ []) ≡ (list_any p xs || p x)
any_end p [] x = by (p x)
  where
    by : (b : Bool) → (b || false) ≡ (false || b)
    by true = refl
    by false = refl
any_end p (y ∷ ys) x = by (p y) (any_end p ys x)
  where
    by : (b : Bool) → list_any p (ys ++ x ∷ []) ≡ (list_any p ys || p x) → (b || list_any p (ys ++ x ∷ [])) ≡ ((b || list_any p ys) || p x)
    by true e = refl
    by false e = e

any_suc : (p : Record → Bool) (rows : List Record) (at : ℕ) → at < length rows → list_any p (take (suc at) rows) ≡ (list_any p (take at rows) || p (record_at rows at))
any_suc p [] at h = absurd (omega arith)
any_suc p (row ∷ rows) zero h = by (p row)
  where
    by : (b : Bool) → (b || false) ≡ (false || b)
    by true = refl
    by false = refl
any_suc p (row ∷ rows) (suc at) h = by (p row) (any_suc p rows at (omega arith))
  where
    by : (b : Bool) → list_any p (take (suc at) rows) ≡ (list_any p (take at rows) || p (record_at rows at))
        → (b || list_any p (take (suc at) rows)) ≡ ((b || list_any p (take at rows)) || p (record_at rows at))
    by true e = refl
    by false e = e

-- one row more
pub any_take : (p : Record → Bool) (rows : List Record) (at : ℕ) → at < length rows → list_any p (take (at + 1) rows) ≡ (list_any p (take at rows) || p (record_at rows at))
any_take p rows at h = rw (add-one at) (any_suc p rows at h)

-- a row that passes
pub any_found : (p : Record → Bool) (rows : List Record) (found at : ℕ) → found < at → found < length rows → p (record_at rows found) ≡ true → list_any p (take at rows) ≡ true
any_found p [] found at b h e = absurd (omega arith)
any_found p (row ∷ rows) found zero b h e = absurd (omega arith)
any_found p (row ∷ rows) zero (suc at) b h e = rw e refl
any_found p (row ∷ rows) (suc found) (suc at) b h e = by (p row) (any_found p rows found at (omega arith) (omega arith) e)
  where
    by : (c : Bool) → list_any p (take at rows) ≡ true → (c || list_any p (take at rows)) ≡ true
    by true f = refl
    by false f = f

pub earlier_none : (rows : List Record) (at : ℕ) → begins rows at ≡ true → earlier_in rows at ≡ []
unfolding earlier_in
earlier_none rows at h = rw h refl

pub earlier_some : (rows : List Record) (at : ℕ) → begins rows at ≡ false → earlier_in rows at ≡ so_far rows (at - 1)
unfolding earlier_in
earlier_some rows at h = rw h refl

-- row 1 is followed by the first row of a template
pub first_begins : (rows : List Record) → begins rows 1 ≡ true
unfolding begins
first_begins rows = refl

pub past_first : (rows : List Record) (at : ℕ) → 0 < at → begins rows at ≡ false → 1 < at
past_first rows zero h e = absurd (omega arith)
past_first rows (suc zero) h e = cc (e, first_begins rows)
past_first rows (suc (suc at)) h e = omega arith

pub so_far_step : (rows : List Record) (at : ℕ) → 0 < at → so_far rows at ≡ earlier_in rows at ++ (record_at rows at ∷ [])
unfolding so_far earlier_in
so_far_step rows zero h = absurd (omega arith)
so_far_step rows (suc at) h =
    let e : suc at - 1 ≡ at = omega arith in
    rw e refl

-- whether a row of the template passes, without the row at hand
pub any_earlier : (p : Record → Bool) (rows : List Record) (at : ℕ) → 0 < at → begins rows at ≡ false
    → list_any p (earlier_in rows at) ≡ (list_any p (earlier_in rows (at - 1)) || p (record_at rows (at - 1)))
any_earlier p rows at h e =
    let past = past_first rows at h e in
    ap (list_any p) (earlier_some rows at e ∙ so_far_step rows (at - 1) (omega (arith, past))) ∙ any_end p (earlier_in rows (at - 1)) (record_at rows (at - 1))

pub any_so_far : (p : Record → Bool) (rows : List Record) (at : ℕ) → 0 < at → list_any p (so_far rows at) ≡ (list_any p (earlier_in rows at) || p (record_at rows at))
any_so_far p rows at h = ap (list_any p) (so_far_step rows at h) ∙ any_end p (earlier_in rows at) (record_at rows at)

or_no : (b c : Bool) → c ≡ false → (b || c) ≡ b
or_no true c e = refl
or_no false c e = e

or_yes : (b c : Bool) → c ≡ true → (b || c) ≡ true
or_yes true c e = refl
or_yes false c e = e

-- going back over the rows of a template, where the row at hand does not pass
pub back_earlier : (p : Record → Bool) (rows : List Record) (at : ℕ) → 0 < at → begins rows at ≡ false → p (record_at rows (at - 1)) ≡ false
    → list_any p (earlier_in rows at) ≡ list_any p (earlier_in rows (at - 1))
back_earlier p rows at h b e = any_earlier p rows at h b ∙ or_no _ _ e

pub found_earlier : (p : Record → Bool) (rows : List Record) (at : ℕ) → 0 < at → begins rows at ≡ false → p (record_at rows (at - 1)) ≡ true → list_any p (earlier_in rows at) ≡ true
found_earlier p rows at h b e = any_earlier p rows at h b ∙ or_yes _ _ e

pub back_so_far : (p : Record → Bool) (rows : List Record) (at : ℕ) → 0 < at → begins rows at ≡ false → p (record_at rows at) ≡ false → list_any p (so_far rows at) ≡ list_any p (so_far rows (at - 1))
back_so_far p rows at h b e = any_so_far p rows at h ∙ or_no _ _ e ∙ ap (list_any p) (earlier_some rows at b)

pub found_so_far : (p : Record → Bool) (rows : List Record) (at : ℕ) → 0 < at → p (record_at rows at) ≡ true → list_any p (so_far rows at) ≡ true
found_so_far p rows at h e = any_so_far p rows at h ∙ or_yes _ _ e

pub none_so_far : (p : Record → Bool) (rows : List Record) (at : ℕ) → 0 < at → begins rows at ≡ true → p (record_at rows at) ≡ false → list_any p (so_far rows at) ≡ false
none_so_far p rows at h b e = any_so_far p rows at h ∙ or_no _ _ e ∙ ap (list_any p) (earlier_none rows at b)

-- the rows from one place to another
pub next_row : (rows : List Record) (place at : ℕ) → place ≤ at → at < length rows
    → drop place (take (at + 1) rows) ≡ record_at rows place ∷ drop (place + 1) (take (at + 1) rows)
next_row rows place at within inside =
    let long : place < length (take (at + 1) rows) = omega (arith, length-take (at + 1) rows) in
    let below : place < at + 1 = omega arith in
    drop-cons (take (at + 1) rows) place [] long
    ∙ ap (λ (r : Record). r ∷ drop (suc place) (take (at + 1) rows)) (get_or-take (at + 1) rows place [] below)
    ∙ ap (λ (n : ℕ). record_at rows place ∷ drop n (take (at + 1) rows)) (sym (add-one place))

pub no_row : (rows : List Record) (place at : ℕ) → at < place → drop place (take (at + 1) rows) ≡ []
no_row rows place at past = drop_all place (take (at + 1) rows) (omega (arith, length-take (at + 1) rows))

-- the rows of a template are those from its first one on
pub go_back : (rows : List Record) (place at : ℕ) → 0 < place → place ≤ at → at < length rows → begins rows place ≡ false
    → so_far rows at ≡ so_far rows place ++ drop (place + 1) (take (at + 1) rows)
    → so_far rows at ≡ so_far rows (place - 1) ++ drop (place - 1 + 1) (take (at + 1) rows)
go_back rows place at first within inside b e =
    let back : place - 1 + 1 ≡ place = omega arith in
    let rest : List Record = drop (place + 1) (take (at + 1) rows) in
    e
    ∙ ap (λ (xs : List Record). xs ++ rest) (so_far_step rows place first ∙ ap (λ (xs : List Record). xs ++ (record_at rows place ∷ [])) (earlier_some rows place b))
    ∙ append_assoc (so_far rows (place - 1)) (record_at rows place ∷ []) rest
    ∙ ap (λ (ys : List Record). so_far rows (place - 1) ++ ys) (sym (next_row rows place at within inside) ∙ ap (λ (n : ℕ). drop n (take (at + 1) rows)) (sym back))

pub went_back : (rows : List Record) (place at : ℕ) → 0 < place → place ≤ at → at < length rows → begins rows place ≡ true
    → so_far rows at ≡ so_far rows place ++ drop (place + 1) (take (at + 1) rows)
    → so_far rows at ≡ drop place (take (at + 1) rows)
went_back rows place at first within inside b e =
    e
    ∙ ap (λ (xs : List Record). xs ++ drop (place + 1) (take (at + 1) rows)) (so_far_step rows place first ∙ ap (λ (xs : List Record). xs ++ (record_at rows place ∷ [])) (earlier_none rows place b))
    ∙ sym (next_row rows place at within inside)

pub whole_so_far : (rows : List Record) (at : ℕ) → so_far rows at ≡ so_far rows at ++ drop (at + 1) (take (at + 1) rows)
whole_so_far rows at = sym (ap (λ (ys : List Record). so_far rows at ++ ys) (no_row rows (at + 1) at (omega arith)) ∙ append-nil (so_far rows at))

-- what holds at a place and above it
pub from_place : (rows : List Record) (place at : ℕ) → begins rows place ≡ false → ((j : ℕ) → place < j → j ≤ at → begins rows j ≡ false)
    → (j : ℕ) → place - 1 < j → j ≤ at → begins rows j ≡ false
from_place rows place at b more j past within = by (nat_lt place j) refl
  where
    by : (t : Bool) → nat_lt place j ≡ t → begins rows j ≡ false
    by true e = let h : place < j = grind (arith, nat_tests) in more j h within
    by false e = let h : j ≤ place = grind (arith, nat_tests) in let s : j ≡ place = omega arith in rw s b

-- one row more, from one place to another
pub more_rows : (rows : List Record) (start place : ℕ) → start ≤ place → place < length rows
    → drop start (take (place + 1) rows) ≡ drop start (take place rows) ++ (record_at rows place ∷ [])
more_rows rows start place from inside =
    let long : start ≤ length (take place rows) = omega (arith, length-take place rows) in
    ap (drop start) (ap (λ (n : ℕ). take n rows) (add-one place) ∙ take-suc rows place [] inside) ∙ drop-append-le start (take place rows) (record_at rows place ∷ []) long

pub no_rows : (rows : List Record) (start : ℕ) → drop start (take start rows) ≡ []
no_rows rows start = drop_all start (take start rows) (omega (arith, length-take start rows))

-- in a template without overlaps, no field ends after the last one
abbrev pub NoOverlap : List Record → Type 0
NoOverlap rows = (j : ℕ) → 0 < j → j < length rows → fails_overlap rows j ≡ false

rise : (rows : List Record) (j : ℕ) → begins rows (j + 1) ≡ false → fails_overlap rows (j + 1) ≡ false → row_end (record_at rows j) ≤ row_end (record_at rows (j + 1))
unfolding fails_overlap end_before row_end
rise rows j b o =
    let back : j + 1 - 1 ≡ j = omega arith in
    let h : nat_lt (row_offset (record_at rows (j + 1))) (row_offset (record_at rows j) + row_width (record_at rows j)) ≡ false = rw (b, back) at o in
    let k : row_offset (record_at rows j) + row_width (record_at rows j) ≤ row_offset (record_at rows (j + 1)) = grind (arith, nat_tests) in
    omega arith

pub below_last : (rows : List Record) (at n place : ℕ) → NoOverlap rows → at < length rows → place + n ≡ at → ((j : ℕ) → place < j → j ≤ at → begins rows j ≡ false)
    → row_end (record_at rows place) ≤ row_end (record_at rows at)
below_last rows at zero place o inside e inner =
    let s : place ≡ at = omega arith in
    rw s (omega arith)
below_last rows at (suc n) place o inside e inner =
    let first = rise rows place (inner (place + 1) (omega arith) (omega arith)) (o (place + 1) (omega arith) (omega arith)) in
    let rest = below_last rows at n (place + 1) o inside (omega arith) (λ j past within. inner j (omega arith) within) in
    omega (arith, first, rest)
