use Rattle.std.proofs.Common.{◌≡◌, ◌++◌, ◌<◌, ◌≤◌, List, ℕ, suc, [], ◌∷◌, length, take, drop, get_or, sym, ap, ◌∙◌, subst, arith, drop-cons}
use Rattle.std.proofs.lemmas.List.{append_assoc, append-nil, take_all, take-append-drop}
use Rattle.std.proofs.lemmas.List.Concat.{flat_map-append}
use Rattle.std.specs.List.{flat_map}
use Rattle.t7_frames.specs.Frames.{BeginsWithNoFrame}
use Rattle.t7_frames.specs.Lists.{lists}
use Rattle.t7_frames.proofs.Unique.{split_of-taken, stuck}
use Rattle.t7_frames.proofs.tests.frames_of.Goals as goal

-- a stream of pieces, cut at a place in one of them
at_piece : {X : Type 0} (f : X → List ℕ) (xs : List X) (i n : ℕ) (x : X) → i < length xs → x ≡ get_or xs i x
    → flat_map f (take i xs) ++ take n (f x) ++ (drop n (f x) ++ flat_map f (drop (suc i) xs)) ≡ flat_map f xs
at_piece f xs i n x within is =
    append_assoc (flat_map f (take i xs)) (take n (f x)) (drop n (f x) ++ flat_map f (drop (suc i) xs))
    ∙ ap (λ r. flat_map f (take i xs) ++ r) (sym (append_assoc (take n (f x)) (drop n (f x)) (flat_map f (drop (suc i) xs))) ∙ ap (λ r. r ++ flat_map f (drop (suc i) xs)) (take-append-drop n (f x)))
    ∙ ap (λ r. flat_map f (take i xs) ++ flat_map f r) (ap (λ y. y ∷ drop (suc i) xs) is ∙ sym (drop-cons xs i x within))
    ∙ sym (flat_map-append f (take i xs) (drop i xs)) ∙ ap (flat_map f) (take-append-drop i xs)

pub returns-then-count-len : goal.returns-then-count-len
returns-then-count-len c =
    let n = c.in_ok-count.count in
    let i = c.loop-piece.piece-index in
    let piece = c.piece-item.result in
    let taken = c.in_ok-count.ensures.bytes.1 in
    let bytes : c.deref.result.now ≡ piece.items = c.deref.ensures.value in
    let cut = at_piece (λ p. p.items) c.args.pieces.now i n piece c.loop-piece-test.true c.piece-item.is in
    let full : 8192 ≤ length c.take_piece.new.buf = c.in_ok-count.ensures.stuck (omega arith) in
    split_of-taken (lists c.take_piece.new.frames) c.take_piece.new.buf (drop n piece.items ++ flat_map (λ p. p.items) (drop (suc i) c.args.pieces.now)) _
    (ap (λ r. r ++ (drop n piece.items ++ flat_map (λ p. p.items) (drop (suc i) c.args.pieces.now)))
    (taken ∙ ap (λ r. r ++ take n c.deref.result.now) c.loop-piece.invariant.bytes ∙ ap (λ d. flat_map (λ p. p.items) (take i c.args.pieces.now) ++ take n d) bytes) ∙ cut)
    (c.take_piece.ensures.each c.loop-piece.invariant.each)
    (stuck _ _ c.in_ok-count.ensures.ends full)

pub returns : goal.returns
returns c =
    split_of-taken (lists c.loop-piece.frames) c.loop-piece.buf [] _
    (append-nil _ ∙ c.loop-piece.invariant.bytes ∙ ap (flat_map (λ p. p.items)) (take_all c.loop-piece.piece-index c.args.pieces.now c.loop-piece-test.false))
    c.loop-piece.invariant.each
    (subst BeginsWithNoFrame (sym (append-nil c.loop-piece.buf)) c.loop-piece.invariant.ends)
