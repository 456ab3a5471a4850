use Rattle.t7_eti.proofs.FramedFacts as lemmas
use Rattle.t7_eti.proofs.laws.responses_are_frames.Goals as goal

pub returns : goal.returns
returns c = lemmas.responses_are_frames c.a_message_says_what_is_written.ensures
