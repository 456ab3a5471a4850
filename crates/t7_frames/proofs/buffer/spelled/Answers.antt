use Rattle.std.proofs.Common.{rules}
use Rattle.t7_frames.specs.Frames.{body_len}
use Rattle.t7_frames.proofs.buffer.spelled.Goals as goal

pub returns : goal.returns
unfolding body_len
returns c = search rules
