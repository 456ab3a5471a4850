-- A field that is written changes no other field.
use Rattle.std.proofs.Common.{◌≡◌, ◌⊎◌, inl, inr, ◌≢◌, ◌≤◌, ◌+◌, ◌-◌, ◌∙◌, ◌++◌, ℕ, zero, suc, List, [], ◌∷◌, length, take, drop, refl, sym, ap, arith, length-append, length-drop, length-take}
use Rattle.std.specs.Prelude.{Contains}
use Rattle.t7_layout.specs.Layouts.{LaidOut, Layout, Place}
use Rattle.t7_fields.specs.Spelling.{raw_at}
use Rattle.t7_fields.specs.Puts.{patch}

pub before : (o w at : ℕ) (xs ys : List ℕ) → o + w ≤ at → at ≤ length xs → take w (drop o (take at xs ++ ys)) ≡ take w (drop o xs)
before zero zero at xs ys h k = refl
before zero (suc w) zero xs ys h k = absurd (omega arith)
before zero (suc w) (suc at) [] ys h k = absurd (omega arith)
before zero (suc w) (suc at) (x ∷ xs) ys h k = ap (λ (t : List ℕ). x ∷ t) (before zero w at xs ys (omega arith) (omega arith))
before (suc o) w zero xs ys h k = absurd (omega arith)
before (suc o) w (suc at) [] ys h k = absurd (omega arith)
before (suc o) w (suc at) (x ∷ xs) ys h k = before o w at xs ys (omega arith) (omega arith)

pub here : (at : ℕ) (xs piece ys : List ℕ) → at ≤ length xs → take (length piece) (drop at (take at xs ++ (piece ++ ys))) ≡ piece
here zero xs [] ys h = refl
here zero xs (p ∷ ps) ys h = ap (λ (t : List ℕ). p ∷ t) (here zero xs ps ys h)
here (suc at) [] piece ys h = absurd (omega arith)
here (suc at) (x ∷ xs) piece ys h = here at xs piece ys (omega arith)

past : (at : ℕ) (xs piece ys : List ℕ) → at ≤ length xs → (n : ℕ) → drop (at + length piece + n) (take at xs ++ (piece ++ ys)) ≡ drop n ys
past zero xs [] ys h n = let e : 0 + 0 + n ≡ n = omega arith in rw e refl
past zero xs (p ∷ ps) ys h n =
    let e : 0 + length (p ∷ ps) + n ≡ suc (0 + length ps + n) = omega arith in
    rw e (past zero xs ps ys h n)
past (suc at) [] piece ys h n = absurd (omega arith)
past (suc at) (x ∷ xs) piece ys h n =
    let e : suc at + length piece + n ≡ suc (at + length piece + n) = omega arith in
    rw e (past at xs piece ys (omega arith) n)

pub drop_sum : (m n : ℕ) (xs : List ℕ) → drop n (drop m xs) ≡ drop (m + n) xs
drop_sum zero n xs = let e : 0 + n ≡ n = omega arith in rw e refl
drop_sum (suc m) zero [] = let e : suc m + 0 ≡ suc m = omega arith in rw e refl
drop_sum (suc m) (suc n) [] = let e : suc m + suc n ≡ suc (m + suc n) = omega arith in rw e refl
drop_sum (suc m) n (x ∷ xs) = let e : suc m + n ≡ suc (m + n) = omega arith in rw e (drop_sum m n xs)

after : (at o : ℕ) (piece xs : List ℕ) → at ≤ length xs → at + length piece ≤ o → drop o (patch at piece xs) ≡ drop o xs
unfolding patch
after at o piece xs h k =
    let n : ℕ = o - (at + length piece) in
    let e : o ≡ at + length piece + n = omega arith in
    rw e (past at xs piece (drop (at + length piece) xs) h n ∙ drop_sum (at + length piece) n xs)

-- fields that lie one after another do not overlap
pub record Within (f : Place) (from to : ℕ) : Type 0 where
  pub low : from ≤ f.offset
  pub high : f.offset + f.width ≤ to

ends_later : (from : ℕ) (fs : List Place) (to : ℕ) → LaidOut from fs to → from ≤ to
ends_later from [] to l = omega (arith, l)
ends_later from (f ∷ fs) to l = let m = ends_later (from + f.width) fs to l.1 in omega arith

pub laid_within : (from : ℕ) (fs : List Place) (to : ℕ) (f : Place) → LaidOut from fs to → Contains fs f → Within f from to
laid_within from [] to f l c = let (k, inside, is) = c in absurd (omega arith)
laid_within from (g ∷ gs) to f l (zero, inside, is) = let m = ends_later (from + g.width) gs to l.1 in rw (← is) (record { low = omega (arith, l.0); high = omega (arith, l.0) })
laid_within from (g ∷ gs) to f l (suc k, inside, is) = let w = laid_within (from + g.width) gs to f l.1 (k, omega arith, is) in record { low = omega (arith, w.low); high = w.high }

pub apart : (from : ℕ) (fs : List Place) (to : ℕ) (f g : Place) → LaidOut from fs to → Contains fs f → Contains fs g → g.offset ≢ f.offset → (g.offset + g.width ≤ f.offset) ⊎ (f.offset + f.width ≤ g.offset)
apart from [] to f g l c d ne = let (k, inside, is) = c in absurd (omega arith)
apart from (h ∷ hs) to f g l (zero, i, is) (zero, j, js) ne = absurd (ne (ap (λ (p : Place). p.offset) (sym js ∙ is)))
apart from (h ∷ hs) to f g l (zero, i, is) (suc n, j, js) ne =
    let w = laid_within (from + h.width) hs to g l.1 (n, omega arith, js) in
    let e : h.offset + h.width ≤ g.offset = omega (arith, l.0, w.low) in
    inr (rw (← is) e)
apart from (h ∷ hs) to f g l (suc m, i, is) (zero, j, js) ne =
    let w = laid_within (from + h.width) hs to f l.1 (m, omega arith, is) in
    let e : h.offset + h.width ≤ f.offset = omega (arith, l.0, w.low) in
    inl (rw (← js) e)
apart from (h ∷ hs) to f g l (suc m, i, is) (suc n, j, js) ne = apart (from + h.width) hs to f g l.1 (m, omega arith, is) (n, omega arith, js) ne

-- new is old but for one field: every other field has the bytes that it had, and so have the bytes past the template
pub record Leaves (t : Layout) (f : Place) (old new : List ℕ) : Type 0 where
  pub same_length : length new ≡ length old
  pub others : (g : Place) → Contains t.fields g → g.offset ≢ f.offset → raw_at g new ≡ raw_at g old
  pub tail : drop t.size new ≡ drop t.size old
  pub front : (n : ℕ) → n ≤ f.offset → take n new ≡ take n old

pub patch_length : (at : ℕ) (piece xs : List ℕ) → at + length piece ≤ length xs → length (patch at piece xs) ≡ length xs
unfolding patch
patch_length at piece xs h =
    simp (length-append, length-drop, length-take) (omega arith)

pub patch_field : (f : Place) (piece xs : List ℕ) → length piece ≡ f.width → f.offset + f.width ≤ length xs → raw_at f (patch f.offset piece xs) ≡ piece
unfolding patch raw_at
patch_field f piece xs e h = rw (← e) (here f.offset xs piece (drop (f.offset + length piece) xs) (omega arith))

pub patch_leaves : (t : Layout) (f : Place) (piece xs : List ℕ) → LaidOut 0 t.fields t.size → Contains t.fields f → length piece ≡ f.width → t.size ≤ length xs → Leaves t f xs (patch f.offset piece xs)
unfolding raw_at patch
patch_leaves t f piece xs l c e h =
    let w = laid_within 0 t.fields t.size f l c in
    record {
      same_length = patch_length f.offset piece xs (omega (arith, w.high));
      others = λ g d ne. by g (apart 0 t.fields t.size f g l c d ne);
      tail = after f.offset t.size piece xs (omega (arith, w.high)) (omega (arith, w.high));
      front = λ n low. before 0 n f.offset xs (piece ++ drop (f.offset + length piece) xs) (omega arith) (omega (arith, w.high));
    }
  where
    by : (g : Place) → (g.offset + g.width ≤ f.offset) ⊎ (f.offset + f.width ≤ g.offset) → take g.width (drop g.offset (patch f.offset piece xs)) ≡ take g.width (drop g.offset xs)
    by g (inl b) = let w = laid_within 0 t.fields t.size f l c in before g.offset g.width f.offset xs (piece ++ drop (f.offset + length piece) xs) b (omega (arith, w.high))
    by g (inr b) = let w = laid_within 0 t.fields t.size f l c in ap (take g.width) (after f.offset g.offset piece xs (omega (arith, w.high)) (omega arith))
