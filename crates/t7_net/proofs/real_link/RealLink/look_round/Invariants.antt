use Rattle.std.proofs.Common.{◌≡◌, length}
use Rattle.t7_net.proofs.real_link.RealLink.look_round.Given as goal

-- nothing came so far
abbrev pub invariant-loop-place : goal.invariant-loop-place
invariant-loop-place g l = (l.self.last ≡ l.fn.self.last) × (l.self.faults ≡ l.fn.self.faults) × (length l.into ≡ length l.fn.into)
