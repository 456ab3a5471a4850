use Rattle.std.proofs.Common.{rules}
use Rattle.t7_replay.proofs.Beginning.{stands_new}
use Rattle.t7_replay.proofs.replayer.Replayer.new.Goals as goal

pub returns : goal.returns
returns c =
    stands_new _ _ c.nothing_was_sent.ensures.sent c.nothing_was_sent.ensures.left c.in_ok-new.ensures c.new-4.ensures.items c.new-5.ensures.items
    (search rules) (search rules) (search rules) (search rules) (search rules) (search rules) c.in_ok-new-2.ensures.terms c.in_ok-new-2.ensures.keeps c.is_sound.ensures.terms
