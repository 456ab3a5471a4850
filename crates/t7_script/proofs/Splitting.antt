-- The first cell of a line.
use Rattle.std.proofs.Common.{◌≡◌, ◌≢◌, ℕ, zero, suc, ◌+◌, ◌<◌, ◌==◌, Bool, true, false, cond, None, Option, Some, sym, List, [], ◌∷◌, length, get_or, take, drop, refl, ◌∙◌, ap, add-one, arith, length-drop, ◌-◌}
use Rattle.std.proofs.lemmas.List.{take_all}
use Rattle.std.proofs.lemmas.Bool.Decides.{nat_tests}
use Rattle.t7_script.specs.Cells.{OrderCells, cells_of, is_nothing, one_of, order_of, two_of, with_byte}

at_space : (b : ℕ) (bytes : List ℕ) → b ≡ 32 → cells_of (b ∷ bytes) ≡ [] ∷ cells_of bytes
at_space b bytes is = grind (arith, nat_tests)

past_byte : (b : ℕ) (bytes : List ℕ) → b ≢ 32 → cells_of (b ∷ bytes) ≡ with_byte b (cells_of bytes)
past_byte b bytes is = grind (arith, nat_tests)

-- the first space ends the first cell
cut_at : (bytes : List ℕ) (at : ℕ) → at < length bytes → get_or bytes at 0 ≡ 32 → ((k : ℕ) → k < at → get_or bytes k 0 ≢ 32)
    → cells_of bytes ≡ take at bytes ∷ cells_of (drop (suc at) bytes)
cut_at [] at inside space none = absurd (omega arith)
cut_at (b ∷ bytes) zero inside space none = at_space b bytes space
cut_at (b ∷ bytes) (suc at) inside space none =
    past_byte b bytes (none 0 (omega arith))
    ∙ ap (with_byte b) (cut_at bytes at (omega arith) space (λ k below. none (suc k) (omega arith)))

-- with no space all is one cell
pub uncut : (bytes : List ℕ) → ((k : ℕ) → k < length bytes → get_or bytes k 0 ≢ 32) → cells_of bytes ≡ bytes ∷ []
uncut [] none = refl
uncut (b ∷ bytes) none =
    past_byte b bytes (none 0 (omega arith))
    ∙ ap (with_byte b) (uncut bytes (λ k below. none (suc k) (omega arith)))

-- the first space ends the first cell, as `&line[at + 1..]` says it
pub cut_off : (bytes : List ℕ) (at : ℕ) → at < length bytes → get_or bytes at 0 ≡ 32 → ((k : ℕ) → k < at → get_or bytes k 0 ≢ 32)
    → cells_of bytes ≡ take at bytes ∷ cells_of (take (length bytes - (at + 1)) (drop (at + 1) bytes))
cut_off bytes at inside space none =
    let all = take_all (length bytes - (at + 1)) (drop (at + 1) bytes) (omega (arith, length-drop (at + 1) bytes)) in
    rw (all, add-one) (cut_at bytes at inside space none)

-- there is a cell
some_cell : (bytes : List ℕ) → (P : List (List ℕ) → Type 0) → ((cell : List ℕ) (cells : List (List ℕ)) → P (cell ∷ cells)) → P (cells_of bytes)
some_cell [] P each = each [] []
some_cell (b ∷ bytes) P each = by (b == 32) (cells_of bytes)
  where
    by : (c : Bool) (cells : List (List ℕ)) → P (cond c ([] ∷ cells) (with_byte b cells))
    by true cells = each [] cells
    by false [] = each (b ∷ []) []
    by false (cell ∷ cells) = each (b ∷ cell) cells

pub is_some_cell : (bytes : List ℕ) → is_nothing (cells_of bytes) ≡ false
is_some_cell bytes = some_cell bytes (λ cells. is_nothing cells ≡ false) (λ cell cells. refl)

pub not_one : (a bytes : List ℕ) → one_of (a ∷ cells_of bytes) ≡ None
not_one a bytes = some_cell bytes (λ cells. one_of (a ∷ cells) ≡ None) (λ cell cells. refl)

-- two cells are a first one and one behind it
pub two_cells : (a b : List ℕ) (cells : List (List ℕ)) → Some b ≡ one_of cells → two_of (a ∷ cells) ≡ Some (a, b)
two_cells a b [] e = cc e
two_cells a b (c ∷ []) e = let same : b ≡ c = cc e in ap (λ (x : List ℕ). Some (a, x)) (sym same)
two_cells a b (c ∷ d ∷ cells) e = cc e

pub two_or_none : (a : List ℕ) (cells : List (List ℕ)) → None ≡ one_of cells → two_of (a ∷ cells) ≡ None
two_or_none a [] e = refl
two_or_none a (c ∷ []) e = cc e
two_or_none a (c ∷ d ∷ cells) e = refl

-- five cells are three and two behind them
pub order_cells : (a b c d e : List ℕ) (cells : List (List ℕ)) → Some (d, e) ≡ two_of cells → order_of (a ∷ b ∷ c ∷ cells) ≡ Some (record { security = a; side = b; price = c; quantity = d; client = e })
order_cells a b c d e [] h = cc h
order_cells a b c d e (x ∷ []) h = cc h
order_cells a b c d e (x ∷ y ∷ []) h = ap (λ (p : List ℕ × List ℕ). Some (record { security = a; side = b; price = c; quantity = p.0; client = p.1 })) (cc (sym h))
order_cells a b c d e (x ∷ y ∷ z ∷ cells) h = cc h

pub order_or_none : (a b c : List ℕ) (cells : List (List ℕ)) → None ≡ two_of cells → order_of (a ∷ b ∷ c ∷ cells) ≡ None
order_or_none a b c [] h = refl
order_or_none a b c (x ∷ []) h = refl
order_or_none a b c (x ∷ y ∷ []) h = cc h
order_or_none a b c (x ∷ y ∷ z ∷ cells) h = refl
