use Rattle.t7_frames.proofs.Unique.{unique, split_of-frames}
use Rattle.t7_frames.proofs.laws.streams_split_in_one_way.Goals as goal

pub returns : goal.returns
returns c = record {
  exists = split_of-frames;
  only = λ stream frames others rest end. unique stream frames others rest end;
}
