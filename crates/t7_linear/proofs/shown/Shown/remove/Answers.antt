use Rattle.std.proofs.Common.{rules}
use Rattle.std.proofs.lemmas.Fn.{filter_same}
use Rattle.t7_mbook.proofs.Room.{removed_has_room}
use Rattle.t7_linear.proofs.shown.Shown.remove.Goals as goal

-- the closure answers the test, and changes nothing that it captured
pub returns-clause-items : goal.returns-clause-items
returns-clause-items c = rw (← c.self.view_is) (filter_same _ _ _ (λ y answer f k. search rules) _ _ c.retain.ensures.filtered)

pub returns-clause-room : goal.returns-clause-room
returns-clause-room c there =
    rw (returns-clause-items c) (rw (← c.self.view_is) (removed_has_room c.args.security c.args.side c.args.stamp c.self.inside.items.items c.self.invariant.0 (rw (← c.self.view_is) at there)))
