use Rattle.t7_frames.proofs.Fronts.{whole-stays}
use Rattle.t7_session.proofs.session.Session.feed.Goals as goal
use Rattle.t7_session.proofs.session.Session.feed.Goals.{then-not-is_empty, else-not-is_empty}

pub invariant_of-self : goal.invariant_of-self
invariant_of-self c =
    elim c.if-not-is_empty.branch [
      | then-not-is_empty w ↦
          rw (c.feed.ensures.bytes, w.self-inside-is) record { front = λ asked. whole-stays _ _ (c.self.invariant.front asked); room = c.self.invariant.room; first = c.self.invariant.first }
      | else-not-is_empty w ↦
          rw (c.feed.ensures.bytes, w.self-inside-is) record { front = λ asked. whole-stays _ _ (c.self.invariant.front asked); room = c.self.invariant.room; first = c.self.invariant.first }
    ]
