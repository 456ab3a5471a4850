use Rattle.std.proofs.Common.{◌≡◌, ◌+◌, ◌^◌, ◌≤◌, true, length}
use Rattle.t7_client.specs.Hearing.{Continues}
use Rattle.t7_client.specs.Sound.{IsSound}
use Rattle.t7_client.proofs.machine.Machine.hear.Given as goal

abbrev pub invariant-pieces : goal.invariant-pieces
invariant-pieces l = record {
  sound : IsSound l.self;
  goes : Continues l.fn.self l.bytes l.self l.left;
  dialed : l.self.dialed ≡ true;
  session : l.self.session ≡ l.fn.self.session;
  few : l.self.treated + length l.self.rest + length l.left ≤ 2 ^ 35;
}

abbrev pub decreases-pieces : goal.decreases-pieces
decreases-pieces l = length l.left
