-- The one split of a stream into frames and a rest.
use Rattle.std.specs.Prelude.{◌≡◌, ℕ, zero, suc, List, [], ◌∷◌, ◌++◌, length, drop}
use Rattle.t7_frames.specs.Frames.{Front, whole, not_yet, bad_length, body_len, front_of, IsFrame}

-- frames, and what comes after them
pub record Split : Type 0 where
  pub frames : List (List ℕ)
  pub rest : List ℕ

-- the split by what stands at the front, where `go` splits what comes after a frame
abbrev pub split_by : (List ℕ → Split) → List ℕ → Front → Split
split_by go bytes (whole frame) =
    let after = go (drop (length frame) bytes) in record { frames = frame ∷ after.frames; rest = after.rest }
split_by go bytes not_yet = record { frames = []; rest = bytes }
split_by go bytes (bad_length len) = record { frames = []; rest = bytes }

-- the split of the bytes, where at most so many frames are in them
unfoldable pub split_within : ℕ → List ℕ → Split
split_within zero bytes = record { frames = []; rest = bytes }
split_within (suc n) bytes = split_by (split_within n) bytes (front_of bytes)

-- the split of a stream
unfoldable pub split_of : List ℕ → Split
split_of bytes = split_within (length bytes) bytes

-- the split of no bytes
abbrev pub nothing : Split
nothing = record { frames = []; rest = [] }

-- a piece more: it comes behind the rest, and the frames that are whole then are taken off
abbrev pub with_piece : Split → List ℕ → Split
with_piece before piece =
    let after = split_of (before.rest ++ piece) in record { frames = before.frames ++ after.frames; rest = after.rest }

-- the same, piece by piece
abbrev pub split_in_pieces : Split → List (List ℕ) → Split
split_in_pieces before [] = before
split_in_pieces before (piece ∷ pieces) = split_in_pieces (with_piece before piece) pieces

-- bytes begin with a frame, and with more bytes their split is that frame and the split of what comes after it
pub record BeginsWith (bytes more frame : List ℕ) : Type 0 where
  pub is_frame : IsFrame frame
  pub first : frame ++ drop (body_len bytes) bytes ≡ bytes
  pub frames : (split_of (bytes ++ more)).frames ≡ frame ∷ (split_of (drop (body_len bytes) bytes ++ more)).frames
  pub rest : (split_of (bytes ++ more)).rest ≡ (split_of (drop (body_len bytes) bytes ++ more)).rest
