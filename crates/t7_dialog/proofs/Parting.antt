-- Frames that stand one behind another, cut anywhere.
use Rattle.std.proofs.Common.{◌≡◌, ℕ, List, [], ◌∷◌, ◌++◌, map, refl, sym, ap, ◌∙◌, arith}
use Rattle.std.proofs.lemmas.List.{append-nil}
use Rattle.std.specs.List.{AllByRecursion, concat}
use Rattle.t7_frames.specs.Frames.{Frames, IsFrame}
use Rattle.t7_frames.specs.Split.{split_of}
use Rattle.t7_frames.proofs.Unique.{goes_on, split_of-frames, unique}

-- the frames of the first bytes are the first ones, and what stands behind them are the others
pub record Parts (fs : List (List ℕ)) (p q : List ℕ) : Type 0 where
  pub later : List (List ℕ)
  pub whole : fs ≡ (split_of p).frames ++ later
  pub rest : (split_of p).rest ++ q ≡ concat later

pub parts : (fs : List (List ℕ)) (p q : List ℕ) → AllByRecursion IsFrame fs → p ++ q ≡ concat fs → Parts fs p q
parts fs p q each is =
    let r = (split_of p).rest in
    let gs = (split_of (r ++ q)).frames in
    let t = (split_of (r ++ q)).rest in
    let after = split_of-frames (r ++ q) in
    let here : Frames (p ++ q) fs [] = record { whole = is ∙ sym (append-nil (concat fs)); each = each; ends = λ four low high. absurd (omega (arith, four)) } in
    let same = unique (p ++ q) fs ((split_of p).frames ++ gs) [] t here (goes_on p q (split_of p).frames gs r t (split_of-frames p) after) in
    record { later = gs; whole = same.0; rest = after.whole ∙ ap (λ (l : List ℕ). concat gs ++ l) (sym same.1) ∙ append-nil (concat gs) }

-- things of which the bytes are two lists of frames
pub record Halves {X : Type 0} (bytes : X → List ℕ) (xs : List X) (gs hs : List (List ℕ)) : Type 0 where
  pub first : List X
  pub later : List X
  pub whole : xs ≡ first ++ later
  pub ones : map bytes first ≡ gs
  pub others : map bytes later ≡ hs

pub halves : {X : Type 0} (bytes : X → List ℕ) (xs : List X) (gs hs : List (List ℕ)) → map bytes xs ≡ gs ++ hs → Halves bytes xs gs hs
halves bytes xs [] hs is = record { first = []; later = xs; whole = refl; ones = refl; others = is }
halves bytes [] (g ∷ gs) hs is = absurd (cc)
halves {X} bytes (x ∷ xs) (g ∷ gs) hs is =
    let head : bytes x ≡ g = cc in
    let tail : map bytes xs ≡ gs ++ hs = cc in
    let more = halves bytes xs gs hs tail in
    record {
      first = x ∷ more.first;
      later = more.later;
      whole = ap (λ (l : List X). x ∷ l) more.whole;
      ones = ap (λ (l : List (List ℕ)). bytes x ∷ l) more.ones ∙ ap (λ (b : List ℕ). b ∷ gs) head;
      others = more.others;
    }
