use Rattle.std.proofs.Common.{rules}
use Rattle.t7_mbook.specs.Walk.{walk_rest}
use Rattle.t7_replay.proofs.Delivering.{show_done}
use Rattle.t7_replay.proofs.replayer.Replayer.show.Goals as goal

pub returns-clause-done : goal.returns-clause-done
returns-clause-done c =
    show_done (record { reported = c.kept_is_reported.ensures; supported = c.what_is_shown_is_supported.ensures })
    c.args.self.now c.self.inside.exchange c.self.inside.member c.status.result (walk_rest c.orders.result) c.put_report.new.text.items
    (search rules) (search rules)
    (record { terms = c.is_sound.ensures.terms; accepted = c.is_sound.ensures.accepted; ranged = c.is_sound.ensures.ranged })
    c.status.ensures c.orders.ensures (search rules)
