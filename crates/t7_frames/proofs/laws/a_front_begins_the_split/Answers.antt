use Rattle.t7_frames.proofs.Fronts.{waits-few}
use Rattle.t7_frames.proofs.Pieces.{begins_with, split_of-bad_length, split_of-waits}
use Rattle.t7_frames.proofs.laws.a_front_begins_the_split.Goals as goal

pub returns : goal.returns
returns c = record {
  whole = begins_with;
  waits = λ bytes is. (split_of-waits bytes is, waits-few bytes is);
  bad = split_of-bad_length;
}
