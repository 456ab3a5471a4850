use Rattle.t7_frames.proofs.Pieces.{split_in_pieces-all}
use Rattle.t7_frames.proofs.laws.pieces_make_no_difference.Goals as goal

pub returns : goal.returns
returns c = split_in_pieces-all
