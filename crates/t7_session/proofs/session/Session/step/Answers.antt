use Rattle.std.proofs.Common.{sym}
use Rattle.t7_frames.proofs.Fronts.{whole-front}
use Rattle.t7_session.proofs.session.Session.step.Goals as goal

pub frame_step-step-requires : goal.frame_step-step-requires
frame_step-step-requires c = (whole-front _ c.in-Whole.frame.now (sym c.in-Whole.ensures.frame)).is_frame
