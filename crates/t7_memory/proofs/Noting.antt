-- Notes one after another.
use Rattle.std.proofs.Common.{◌≡◌, ℕ, zero, suc, ◌+◌, ◌<◌, ◌≤◌, List, [], ◌∷◌, ◌++◌, Option, Some, None, Bool, true, false, if◌then◌else◌, refl, sym, ◌∙◌, length, take, drop, get_or, slice_get, nat_lt, ap, arith, length-drop}
use Rattle.std.proofs.lemmas.List.{take-append-le, drop-append-le, drop-drop, take_all}
use Rattle.std.proofs.lemmas.Option.{slice_get_past}
use Rattle.std.specs.List.{sum}
use Rattle.std.proofs.lemmas.List.Sums.{sum_by-cons}
use Rattle.std.proofs.lemmas.Bool.Decides.{nat_tests}
use Rattle.t7_memory.specs.Notes.{Note, more, notes, told_at}

-- a note more at the end
pub notes_push : {K : Type 0} (kinds : List K) (lengths bytes : List ℕ) (kind : K) (n : ℕ) (piece : List ℕ) → length lengths ≡ length kinds → sum lengths ≡ length bytes → n ≡ length piece
    → notes (kinds ++ kind ∷ []) (lengths ++ n ∷ []) (bytes ++ piece) ≡ notes kinds lengths bytes ++ record { kind = kind; bytes = piece } ∷ []
notes_push {K = K} [] [] [] kind n piece both covers is = ap (λ (p : List ℕ). record { kind = kind; bytes = p } ∷ []) (take_all n piece (omega arith))
notes_push {K = K} [] [] (b ∷ bytes) kind n piece both covers is = absurd (omega arith)
notes_push {K = K} [] (m ∷ lengths) bytes kind n piece both covers is = absurd (omega arith)
notes_push {K = K} (k ∷ kinds) [] bytes kind n piece both covers is = absurd (omega arith)
notes_push {K = K} (k ∷ kinds) (m ∷ lengths) bytes kind n piece both covers is =
    let total : sum (m ∷ lengths) ≡ m + sum lengths = sum_by-cons (λ (x : ℕ). x) m lengths in
    let fits : m ≤ length bytes = omega arith in
    let front = take-append-le m bytes piece fits in
    let back = drop-append-le m bytes piece fits in
    let later : sum lengths ≡ length (drop m bytes) = omega (arith, length-drop m bytes) in
    let fewer : length lengths ≡ length kinds = omega arith in
    let rest = notes_push kinds lengths (drop m bytes) kind n piece fewer later is in
    rw (front, back) (ap (λ (ns : List (Note K)). record { kind = k; bytes = take m bytes } ∷ ns) rest)

-- a note more, where the notes are told
pub told_more : {K : Type 0} (told : Bool) (kinds : List K) (lengths bytes : List ℕ) (kind : K) (n : ℕ) (piece : List ℕ) → length lengths ≡ length kinds → sum lengths ≡ length bytes → n ≡ length piece
    → (if told then Some (notes (kinds ++ kind ∷ []) (lengths ++ n ∷ []) (bytes ++ piece)) else None) ≡ more (if told then Some (notes kinds lengths bytes) else None) (record { kind = kind; bytes = piece })
told_more {K = K} true kinds lengths bytes kind n piece both covers is = ap (λ (l : List (Note K)). let o : Option (List (Note K)) = Some l in o) (notes_push kinds lengths bytes kind n piece both covers is)
told_more {K = K} false kinds lengths bytes kind n piece both covers is = refl

-- the note at a place, by the bytes before it
pub notes_at : {K : Type 0} (kinds : List K) (lengths bytes : List ℕ) (i : ℕ) (d : K) → length lengths ≡ length kinds → i < length kinds
    → slice_get (notes kinds lengths bytes) i ≡ Some (record { kind = get_or kinds i d; bytes = take (get_or lengths i 0) (drop (sum (take i lengths)) bytes) })
notes_at [] lengths bytes i d both inside = absurd (omega arith)
notes_at (k ∷ kinds) [] bytes i d both inside = absurd (omega arith)
notes_at (k ∷ kinds) (n ∷ lengths) bytes zero d both inside = refl
notes_at {K = K} (k ∷ kinds) (n ∷ lengths) bytes (suc i) d both inside =
    let fewer : length lengths ≡ length kinds = omega arith in
    let within : i < length kinds = omega arith in
    let total : sum (n ∷ take i lengths) ≡ n + sum (take i lengths) = sum_by-cons (λ (x : ℕ). x) n (take i lengths) in
    let behind = drop-drop (sum (take i lengths)) n bytes in
    notes_at kinds lengths (drop n bytes) i d fewer within
    ∙ ap (λ (b : List ℕ). let o : Option (Note K) = Some (record { kind = get_or kinds i d; bytes = take (get_or lengths i 0) b }) in o)
    (behind ∙ ap (λ (m : ℕ). drop m bytes) (sym total))

-- no note stands behind the last
pub notes_past : {K : Type 0} (kinds : List K) (lengths bytes : List ℕ) (i : ℕ) → length kinds ≤ i → slice_get (notes kinds lengths bytes) i ≡ None
notes_past [] lengths bytes i past = slice_get_past [] i (omega arith)
notes_past (k ∷ kinds) [] bytes i past = slice_get_past [] i (omega arith)
notes_past (k ∷ kinds) (n ∷ lengths) bytes zero past = absurd (omega arith)
notes_past (k ∷ kinds) (n ∷ lengths) bytes (suc i) past = notes_past kinds lengths (drop n bytes) i (omega arith)

-- the note at a place is told, where the notes are
pub told_note : {K : Type 0} (told : Bool) (kinds : List K) (lengths bytes piece : List ℕ) (i : ℕ) (kind d : K) → told ≡ true → length lengths ≡ length kinds
    → true ≡ nat_lt i (length kinds) → kind ≡ get_or kinds i d → piece ≡ take (get_or lengths i 0) (drop (sum (take i lengths)) bytes)
    → Some (record { kind = kind; bytes = piece }) ≡ told_at (if told then Some (notes kinds lengths bytes) else None) i
told_note {K = K} told kinds lengths bytes piece i kind d is both inside found spelled =
    let within : i < length kinds = grind (arith, nat_tests) in
    let at = notes_at kinds lengths bytes i d both within in
    rw (is, found, spelled) (sym at)

-- behind the last nothing is told
pub none_told : {K : Type 0} (told : Bool) (kinds : List K) (lengths bytes : List ℕ) (i : ℕ) → false ≡ nat_lt i (length kinds)
    → None ≡ told_at (if told then Some (notes kinds lengths bytes) else None) i
none_told false kinds lengths bytes i past = refl
none_told true kinds lengths bytes i past =
    let above : length kinds ≤ i = grind (arith, nat_tests) in
    sym (notes_past kinds lengths bytes i above)
