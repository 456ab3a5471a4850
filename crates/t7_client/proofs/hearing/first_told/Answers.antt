use Rattle.std.proofs.Common.{sym, []}
use Rattle.t7_client.proofs.hearing.first_told.Goals as goal

pub response_by-requires : goal.response_by-requires
response_by-requires c = (c.a_front_begins_the_split.ensures.whole _ [] c.in-Whole.frame.now (sym c.in-Whole.ensures.frame)).is_frame
