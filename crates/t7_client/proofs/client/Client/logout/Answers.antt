use Rattle.std.proofs.Common.{arith}
use Rattle.t7_fields.specs.Writing.{IsOrdinary}
use Rattle.t7_eti.specs.Requests.{request_client, request_number}
use Rattle.t7_eti.specs.Saying.{request_fields}
use Rattle.t7_client.proofs.Numbers.{next_small}
use Rattle.t7_client.proofs.client.Client.logout.Goals as goal

pub make-requires-clause-ordinary : goal.make-requires-clause-ordinary
unfolding request_fields IsOrdinary
make-requires-clause-ordinary c = let small = next_small c.self.inside.machine c.self.invariant in (omega arith, tt)

pub make-requires-clause-askable : goal.make-requires-clause-askable
unfolding request_number request_client
make-requires-clause-askable c = let small = next_small c.self.inside.machine c.self.invariant in record { number = omega arith; client = tt }
