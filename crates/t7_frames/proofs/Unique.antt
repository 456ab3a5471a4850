-- A stream splits into frames and a rest in one way.
use Rattle.std.proofs.Common.{◌≡◌, ℕ, zero, suc, ◌+◌, ◌<◌, ◌≤◌, List, [], ◌∷◌, ◌++◌, length, take, drop, refl, sym, ap, ◌∙◌, subst, arith, length-append}
use Rattle.std.proofs.lemmas.List.{append_assoc, take_at, drop_at}
use Rattle.std.specs.List.{AllByRecursion, concat}
use Rattle.t7_frames.specs.Frames.{body_len, Front, whole, not_yet, bad_length, front_of, IsFrame, BeginsWithNoFrame, IsWhole, Frames}
use Rattle.t7_frames.specs.Split.{Split, split_within, split_by, split_of}
use Rattle.t7_frames.proofs.Fronts.{body_len-append, whole-front, no_frame-from}

-- a string that a frame begins doesn't begin with no frame
frame_begins : (f s : List ℕ) → IsFrame f → BeginsWithNoFrame (f ++ s) → ⊥
frame_begins f s is none =
    let least = is.least in let most = is.most in
    let spelled : body_len (f ++ s) ≡ length f = body_len-append f s (omega arith) ∙ is.spelled in
    let long : length (f ++ s) ≡ length f + length s = length-append f s in
    let short : length (f ++ s) < body_len (f ++ s) = none (omega arith) (omega arith) (omega arith) in
    omega arith

-- two frames at the front of one string are one
same_frame : (f g s t : List ℕ) → IsFrame f → IsFrame g → f ++ s ≡ g ++ t → (f ≡ g) × (s ≡ t)
same_frame f g s t is also e =
    let lf = is.least in let lg = also.least in
    let count : length f ≡ length g = sym is.spelled ∙ sym (body_len-append f s (omega arith)) ∙ ap body_len e ∙ body_len-append g t (omega arith) ∙ also.spelled in (
      sym (take_at f s (length f) refl) ∙ ap (take (length f)) e ∙ take_at g t (length f) (sym count),
      sym (drop_at f s (length f) refl) ∙ ap (drop (length f)) e ∙ drop_at g t (length f) (sym count),
    )

pub same_split : (fs gs : List (List ℕ)) (r q : List ℕ) → concat fs ++ r ≡ concat gs ++ q
    → AllByRecursion IsFrame fs → AllByRecursion IsFrame gs → BeginsWithNoFrame r → BeginsWithNoFrame q → (fs ≡ gs) × (r ≡ q)
same_split [] [] r q e each all ends stops = (refl, e)
same_split [] (g ∷ gs) r q e each all ends stops =
    absurd (frame_begins g (concat gs ++ q) all.0 (subst BeginsWithNoFrame (e ∙ append_assoc g (concat gs) q) ends))
same_split (f ∷ fs) [] r q e each all ends stops =
    absurd (frame_begins f (concat fs ++ r) each.0 (subst BeginsWithNoFrame (sym e ∙ append_assoc f (concat fs) r) stops))
same_split (f ∷ fs) (g ∷ gs) r q e each all ends stops =
    let first = same_frame f g (concat fs ++ r) (concat gs ++ q) each.0 all.0 (sym (append_assoc f (concat fs) r) ∙ e ∙ append_assoc g (concat gs) q) in
    let rest = same_split fs gs r q first.1 each.1 all.1 ends stops in
    (λ i. first.0 i ∷ rest.0 i, rest.1)

pub unique : (s : List ℕ) (fs gs : List (List ℕ)) (r q : List ℕ) → Frames s fs r → Frames s gs q → (fs ≡ gs) × (r ≡ q)
unique s fs gs r q is also = same_split fs gs r q (sym is.whole ∙ also.whole) is.each also.each is.ends also.ends

-- there is one
by_front : (go : List ℕ → Split) (s : List ℕ) (front : Front) → front_of s ≡ front
    → ((r : List ℕ) → length r < length s → Frames r (go r).frames (go r).rest)
    → Frames s (split_by go s front).frames (split_by go s front).rest
by_front go s (whole f) is goes =
    let front = whole-front s f is in
    let frame = front.is_frame in
    let least = frame.least in
    let tail = drop (length f) s in
    let joined : f ++ tail ≡ s = ap (λ b. f ++ drop b s) front.count ∙ front.split in
    let long : length s ≡ length f + length tail = omega (arith, length-append f tail, ap length joined) in
    let after : Frames tail (go tail).frames (go tail).rest = goes tail (omega arith) in
    record {
      whole = sym joined ∙ ap (λ r. f ++ r) after.whole ∙ sym (append_assoc f (concat (go tail).frames) (go tail).rest);
      each = (frame, after.each);
      ends = after.ends;
    }
by_front go s not_yet is goes = record { whole = refl; each = tt; ends = no_frame-from s (λ w. subst IsWhole is w) }
by_front go s (bad_length b) is goes = record { whole = refl; each = tt; ends = no_frame-from s (λ w. subst IsWhole is w) }

within : (n : ℕ) (s : List ℕ) → length s ≤ n → Frames s (split_within n s).frames (split_within n s).rest
unfolding split_within
within zero s few = record { whole = refl; each = tt; ends = λ four _ _. absurd (omega arith) }
within (suc n) s few = by_front (split_within n) s (front_of s) refl (λ r less. within n r (omega arith))

pub split_of-frames : (s : List ℕ) → Frames s (split_of s).frames (split_of s).rest
unfolding split_of
split_of-frames s = within (length s) s (omega arith)

each-append : (P : List ℕ → Type 0) (xss yss : List (List ℕ)) → AllByRecursion P xss → AllByRecursion P yss → AllByRecursion P (xss ++ yss)
each-append P [] yss each all = all
each-append P (xs ∷ xss) yss each all = (each.0, each-append P xss yss each.1 all)

concat-append : (xss yss : List (List ℕ)) → concat (xss ++ yss) ≡ concat xss ++ concat yss
concat-append [] yss = refl
concat-append (xs ∷ xss) yss = ap (λ r. xs ++ r) (concat-append xss yss) ∙ sym (append_assoc xs (concat xss) (concat yss))

-- a split goes on from its rest
pub goes_on : (s q : List ℕ) (fs gs : List (List ℕ)) (r t : List ℕ) → Frames s fs r → Frames (r ++ q) gs t → Frames (s ++ q) (fs ++ gs) t
goes_on s q fs gs r t is more = record {
  whole =
      ap (λ b. b ++ q) is.whole ∙ append_assoc (concat fs) r q ∙ ap (λ b. concat fs ++ b) more.whole
      ∙ sym (append_assoc (concat fs) (concat gs) t) ∙ ap (λ b. b ++ t) (sym (concat-append fs gs));
  each = each-append IsFrame fs gs is.each more.each;
  ends = more.ends;
}

pub split_of-append : (s q : List ℕ)
    → ((split_of (s ++ q)).frames ≡ (split_of s).frames ++ (split_of ((split_of s).rest ++ q)).frames) × ((split_of (s ++ q)).rest ≡ (split_of ((split_of s).rest ++ q)).rest)
split_of-append s q = unique _ _ _ _ _ (split_of-frames (s ++ q)) (goes_on s q _ _ _ _ (split_of-frames s) (split_of-frames ((split_of s).rest ++ q)))

-- what was taken so far is the split, where no frame begins what was not
pub split_of-taken : (frames : List (List ℕ)) (held rest stream : List ℕ) → concat frames ++ held ++ rest ≡ stream
    → AllByRecursion IsFrame frames → BeginsWithNoFrame (held ++ rest) → frames ≡ (split_of stream).frames
split_of-taken frames held rest stream is each ends =
    let here : Frames stream frames (held ++ rest) = record { whole = sym is ∙ append_assoc (concat frames) held rest; each = each; ends = ends } in
    (unique stream _ _ _ _ here (split_of-frames stream)).0

-- a bad length stays, whatever comes
pub stuck : (held rest : List ℕ) → BeginsWithNoFrame held → 8192 ≤ length held → BeginsWithNoFrame (held ++ rest)
stuck held rest none full four low high =
    let same : body_len (held ++ rest) ≡ body_len held = body_len-append held rest (omega arith) in
    let short : length held < body_len held = none (omega arith) (omega arith) (omega arith) in
    absurd (omega arith)

-- behind a bad length there is no frame
pub split_of-bad : (s : List ℕ) (n : ℕ) → front_of s ≡ bad_length n → ([] ≡ (split_of s).frames) × (s ≡ (split_of s).rest)
split_of-bad s n is =
    let here : Frames s [] s = record { whole = refl; each = tt; ends = no_frame-from s (λ w. subst IsWhole is w) } in
    unique s _ _ _ _ here (split_of-frames s)

-- the frame at the front is the first of the split
pub split_of-front : (u q f : List ℕ) → front_of u ≡ whole f
    → ((split_of (u ++ q)).frames ≡ f ∷ (split_of (drop (length f) u ++ q)).frames) × ((split_of (u ++ q)).rest ≡ (split_of (drop (length f) u ++ q)).rest)
split_of-front u q f is =
    let front = whole-front u f is in
    let tail = drop (length f) u in
    let after = split_of-frames (tail ++ q) in
    let fs = (split_of (tail ++ q)).frames in let r = (split_of (tail ++ q)).rest in
    let joined : f ++ tail ≡ u = ap (λ b. f ++ drop b u) front.count ∙ front.split in
    let here : Frames (u ++ q) (f ∷ fs) r = record {
      whole = ap (λ b. b ++ q) (sym joined) ∙ append_assoc f tail q ∙ ap (λ b. f ++ b) after.whole ∙ sym (append_assoc f (concat fs) r);
      each = (front.is_frame, after.each);
      ends = after.ends;
    } in
    unique (u ++ q) _ _ _ _ (split_of-frames (u ++ q)) here

-- with no frame at the front there is none
pub split_of-not_yet : (s : List ℕ) → front_of s ≡ not_yet → ((split_of s).frames ≡ []) × ((split_of s).rest ≡ s)
split_of-not_yet s is =
    let here : Frames s [] s = record { whole = refl; each = tt; ends = no_frame-from s (λ w. subst IsWhole is w) } in
    unique s _ _ _ _ (split_of-frames s) here
