-- What always holds of the two parts of a frame buffer: the bytes that are gathered, and the ring behind them.
use Rattle.std.specs.Prelude.{◌≡◌, ℕ, ◌+◌, ◌≤◌, length, max, vec_capacity}
use Rattle.std.specs.declared.vec.Vec.{Vec}
use Rattle.std.specs.declared.alloc.Global.{Global}
use Rattle.circular_buffer.specs.Buffer.{Buffer}
use Rattle.t7_frames.specs.Frames.{body_len}

-- the ring and the gathered bytes have their room, and no more is held than fits
pub record IsFrameBuf (gathered : Vec ℕ Global) (ring : Buffer ℕ) : Type 0 where
  pub capacity : ring.capacity ≡ 8192
  pub room : 4096 ≤ vec_capacity gathered
  pub held : length gathered.items + length ring.items ≤ 8192
  pub few : length gathered.items ≤ 4096
  -- no more is gathered than the frame at the front has
  pub begun : 4 ≤ length gathered.items → length gathered.items ≤ max 4 (body_len gathered.items)
