-- One after another.
use Rattle.t7_drill.proofs.day.Drill.close.Goals as goal

pub returns-clause-stands : goal.returns-clause-stands
returns-clause-stands c = λ w stands.
    c.beat.ensures.stands _ (c.send_cycle.ensures.stands _ (c.end_cycle.ensures.stands _ (c.catch_up.ensures.stands w stands)))
