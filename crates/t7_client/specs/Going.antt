-- What the treatment of one frame leaves.
use Rattle.std.specs.Prelude.{◌≡◌, ℕ, ◌+◌, ◌<◌, List, Bool, true, false, length, drop}
use Rattle.t7_frames.specs.Frames.{body_len, front_of, not_yet}
use Rattle.t7_client.specs.Recovering.{Recovery}
use Rattle.t7_client.specs.Hearing.{Continues}
use Rattle.t7_client.specs.Sound.{IsSound}

-- a frame of so many bytes is taken off the untreated bytes
abbrev pub taken : Recovery → ℕ → Recovery
taken client count = record client { rest = drop (body_len client.rest) client.rest; treated = client.treated + count }

-- The front frame is treated: whatever comes behind it is heard as before.
pub record Treats (old new : Recovery) : Type 0 where
  pub sound : IsSound new
  pub goes : (more : List ℕ) → Continues old more new more
  pub fewer : length new.rest < length old.rest

-- where there is one; else none has come yet
abbrev pub Goes : Recovery → Bool → Recovery → Type 0
Goes old true new = Treats old new
Goes old false new = (front_of old.rest ≡ not_yet) × (new ≡ old)
