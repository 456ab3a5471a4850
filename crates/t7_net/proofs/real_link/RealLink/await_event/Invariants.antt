use Rattle.std.proofs.Common.{◌≡◌, length}
use Rattle.t7_net.proofs.real_link.RealLink.await_event.Given as goal

-- nothing came so far
abbrev pub invariant-loop-look : goal.invariant-loop-look
invariant-loop-look g l = (l.self.last ≡ l.fn.self.last) × (l.self.faults ≡ l.fn.self.faults) × (length l.into ≡ length l.fn.into)
