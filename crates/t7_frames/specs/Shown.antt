-- What a frame buffer answers of its front.
use Rattle.t7_frames.specs.Frames.{Front, whole, not_yet, bad_length}
use Rattle.t7_frames.specs.declared.buffer.Frame.{Frame}
use Rattle.t7_frames.specs.declared.buffer.Frame.TheVariants.{Whole, NotYet, BadLength}

-- what a `Frame` says of the front
abbrev pub shown : Frame → Front
shown (Whole bytes) = whole bytes.now
shown NotYet = not_yet
shown (BadLength n) = bad_length n
