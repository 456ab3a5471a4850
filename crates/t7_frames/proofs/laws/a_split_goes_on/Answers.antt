use Rattle.t7_frames.proofs.Unique.{split_of-append}
use Rattle.t7_frames.proofs.laws.a_split_goes_on.Goals as goal

pub returns : goal.returns
returns c = record {
  frames = λ stream piece. (split_of-append stream piece).0;
  rest = λ stream piece. (split_of-append stream piece).1;
}
