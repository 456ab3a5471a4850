-- A stream in pieces, and what the front says of a split.
use Rattle.std.proofs.Common.{◌≡◌, ℕ, List, [], ◌∷◌, ◌++◌, drop, refl, sym, ap, ◌∙◌}
use Rattle.std.proofs.lemmas.List.{append_assoc, append-nil}
use Rattle.std.specs.List.{concat}
use Rattle.t7_frames.specs.Frames.{whole, not_yet, bad_length, front_of}
use Rattle.t7_frames.specs.Split.{Split, nothing, split_in_pieces, split_of, split_within, with_piece, BeginsWith}
use Rattle.t7_frames.proofs.Fronts.{bad-stays, whole-front}
use Rattle.t7_frames.proofs.Unique.{split_of-append, split_of-bad, split_of-front, split_of-not_yet}

-- two splits with the same frames and the same rest are one
same_parts : (a b : Split) → a.frames ≡ b.frames → a.rest ≡ b.rest → a ≡ b
same_parts a b frames rest = λ i. record { frames = frames i; rest = rest i }

with_piece-split_of : (s piece : List ℕ) → with_piece (split_of s) piece ≡ split_of (s ++ piece)
with_piece-split_of s piece =
    let more = split_of-append s piece in same_parts (with_piece (split_of s) piece) (split_of (s ++ piece)) (sym more.0) (sym more.1)

split_in_pieces-from : (s : List ℕ) (pieces : List (List ℕ)) → split_in_pieces (split_of s) pieces ≡ split_of (s ++ concat pieces)
split_in_pieces-from s [] = ap split_of (sym (append-nil s))
split_in_pieces-from s (piece ∷ pieces) =
    ap (λ before. split_in_pieces before pieces) (with_piece-split_of s piece)
    ∙ split_in_pieces-from (s ++ piece) pieces ∙ ap split_of (append_assoc s piece (concat pieces))

split_of-nothing : nothing ≡ split_of []
unfolding split_of split_within
split_of-nothing = refl

pub split_in_pieces-all : (pieces : List (List ℕ)) → split_in_pieces nothing pieces ≡ split_of (concat pieces)
split_in_pieces-all pieces =
    ap (λ before. split_in_pieces before pieces) split_of-nothing ∙ split_in_pieces-from [] pieces

pub begins_with : (bytes more frame : List ℕ) → front_of bytes ≡ whole frame → BeginsWith bytes more frame
begins_with bytes more frame is =
    let front = whole-front bytes frame is in
    let split = split_of-front bytes more frame is in
    record {
      is_frame = front.is_frame;
      first = front.split;
      frames = split.0 ∙ ap (λ n. frame ∷ (split_of (drop n bytes ++ more)).frames) front.count;
      rest = split.1 ∙ ap (λ n. (split_of (drop n bytes ++ more)).rest) front.count;
    }

pub split_of-waits : (bytes : List ℕ) → front_of bytes ≡ not_yet → split_of bytes ≡ record { frames = []; rest = bytes }
split_of-waits bytes is = let both = split_of-not_yet bytes is in same_parts (split_of bytes) (record { frames = []; rest = bytes }) both.0 both.1

pub split_of-bad_length : (bytes more : List ℕ) (len : ℕ) → front_of bytes ≡ bad_length len → split_of (bytes ++ more) ≡ record { frames = []; rest = bytes ++ more }
split_of-bad_length bytes more len is =
    let both = split_of-bad (bytes ++ more) len (bad-stays bytes more len is) in
    same_parts (split_of (bytes ++ more)) (record { frames = []; rest = bytes ++ more }) (sym both.0) (sym both.1)
