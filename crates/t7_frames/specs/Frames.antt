-- How a stream of bytes splits into frames (BodyLen in the ETI message header). A frame begins with four bytes that spell
-- its length, the lowest first.
use Rattle.std.specs.Prelude.{◌≡◌, ℕ, ◌<◌, ◌≤◌, List, ◌++◌, length, take, nat_lt, if◌then◌else◌}
use Rattle.std.specs.List.{AllByRecursion, concat}
use Rattle.byteorder.specs.Endian.{little_number}

-- the length that the first four bytes spell
unfoldable pub body_len : List ℕ → ℕ
body_len bytes = little_number 4 bytes

-- a frame: 8 to 4,096 bytes, as many as it says
pub record IsFrame (bytes : List ℕ) : Type 0 where
  pub least : 8 ≤ length bytes
  pub most : length bytes ≤ 4096
  pub spelled : body_len bytes ≡ length bytes

-- no frame stands at the front: fewer than four bytes, or a length out of range, or one above the bytes that are there
abbrev pub BeginsWithNoFrame : List ℕ → Type 0
BeginsWithNoFrame bytes = 4 ≤ length bytes → 8 ≤ body_len bytes → body_len bytes ≤ 4096 → length bytes < body_len bytes

-- the stream is these frames, and then a rest that begins with none
pub record Frames (stream : List ℕ) (frames : List (List ℕ)) (rest : List ℕ) : Type 0 where
  pub whole : stream ≡ concat frames ++ rest
  pub each : AllByRecursion IsFrame frames
  pub ends : BeginsWithNoFrame rest

-- what stands at the front of the bytes
pub data Front : Type 0 where
  whole : List ℕ → Front
  not_yet : Front
  bad_length : ℕ → Front

-- the same, by how many bytes there are, the length that they spell, and the first so many of them
abbrev pub front_by : ℕ → ℕ → List ℕ → Front
front_by count len frame =
    if nat_lt count 4 then not_yet else
    if nat_lt len 8 then bad_length len else
    if nat_lt 4096 len then bad_length len else
    if nat_lt count len then not_yet else
    whole frame

-- what stands at the front of these bytes
abbrev pub front_of : List ℕ → Front
front_of bytes = front_by (length bytes) (body_len bytes) (take (body_len bytes) bytes)

-- a whole frame stands there
abbrev pub IsWhole : Front → Type 0
IsWhole (whole bytes) = Unit {0}
IsWhole not_yet = ⊥
IsWhole (bad_length n) = ⊥
