-- The pairs of rows, one further row at a time.
use Rattle.std.proofs.Common.{◌≡◌, ◌<◌, ◌+◌, ◌&&◌, ◌||◌, ◌∙◌, ℕ, List, Bool, true, false, length, take, refl, ap, sym, cond}
use Rattle.std.specs.HashSet.{HashSet, Updates}
use Rattle.std.specs.List.{list_any}
use Rattle.std.specs.Str.{bytes_eq}
use denote.Ref.{Bor}
use Rattle.t7_records.specs.Records.{Record, cell, record_at}
use Rattle.t7_layout.specs.Pairs.{ArePairs}
use Rattle.t7_layout.specs.Rows.{same_cell}
use Rattle.t7_layout.proofs.RowFacts.{any_take}

-- two pairs are equal where both of their words are
abbrev pub same_pair : Bor (List ℕ) × Bor (List ℕ) → Bor (List ℕ) × Bor (List ℕ) → Bool
same_pair a b = bytes_eq a.0.now b.0.now && bytes_eq a.1.now b.1.now

join : (b x : Bool) → cond b true x ≡ (x || b)
join true true = refl
join true false = refl
join false true = refl
join false false = refl

-- a set with one pair more, that of the next row
pub one_more : {S : Type 0} (place : ℕ) (rows : List Record) (at : ℕ) (old new : HashSet (Bor (List ℕ) × Bor (List ℕ)) S) (pair : Bor (List ℕ) × Bor (List ℕ)) → at < length rows
    → pair.0.now ≡ cell (record_at rows at) 0 → pair.1.now ≡ cell (record_at rows at) place
    → ArePairs place (take at rows) old → Updates same_pair old new pair true → ArePairs place (take (at + 1) rows) new
one_more place rows at old new pair h e f before u = λ family word.
    let p : Record → Bool = λ row. bytes_eq (cell row 0) family.now && bytes_eq (cell row place) word.now in
    let same : same_pair pair (family, word) ≡ p (record_at rows at) = rw (e, f) refl in
    u.0 (family, word)
    ∙ ap (λ (b : Bool). cond b true (list_any (same_pair (family, word)) old.keys)) same
    ∙ ap (λ (b : Bool). cond (p (record_at rows at)) true b) (before family word)
    ∙ join (p (record_at rows at)) (list_any p (take at rows))
    ∙ sym (any_take p rows at h)

-- whether the set has the pair of a row: whether an earlier one of the rows has it
pub has_pair : {S : Type 0} (place : ℕ) (rows : List Record) (at : ℕ) (pairs : HashSet (Bor (List ℕ) × Bor (List ℕ)) S) (pair : Bor (List ℕ) × Bor (List ℕ)) (found : Bool)
    → pair.0.now ≡ cell (record_at rows at) 0 → pair.1.now ≡ cell (record_at rows at) place
    → ArePairs place (take at rows) pairs → found ≡ list_any (same_pair pair) pairs.keys
    → found ≡ list_any (λ earlier. same_cell 0 earlier (record_at rows at) && same_cell place earlier (record_at rows at)) (take at rows)
unfolding same_cell
has_pair place rows at pairs pair found e f are is =
    let stands : List ℕ → List ℕ → Bool = λ family word. list_any (λ row. bytes_eq (cell row 0) family && bytes_eq (cell row place) word) (take at rows) in
    is ∙ are pair.0 pair.1 ∙ ap (λ (family : List ℕ). stands family pair.1.now) e ∙ ap (λ (word : List ℕ). stands (cell (record_at rows at) 0) word) f
