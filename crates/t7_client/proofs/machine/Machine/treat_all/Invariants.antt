use Rattle.std.proofs.Common.{◌≡◌, ℕ, List, true, length}
use Rattle.t7_client.specs.Hearing.{Continues}
use Rattle.t7_client.specs.Sound.{IsSound}
use Rattle.t7_client.proofs.machine.Machine.treat_all.Given as goal

abbrev pub invariant-loop : goal.invariant-loop
invariant-loop l = record {
  sound : IsSound l.self;
  goes : (more : List ℕ) → Continues l.fn.self more l.self more;
  dialed : l.self.dialed ≡ true;
  session : l.self.session ≡ l.fn.self.session;
}

abbrev pub decreases-loop : goal.decreases-loop
decreases-loop l = length l.self.rest
