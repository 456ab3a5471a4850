use Rattle.std.proofs.Common.{arith}
use Rattle.t7_fields.specs.Writing.{IsOrdinary}
use Rattle.t7_eti.specs.Requests.{request_client, request_number}
use Rattle.t7_eti.specs.Saying.{request_fields}
use Rattle.t7_client.proofs.sending.logon.Goals as goal

pub push_request-requires-clause-ordinary : goal.push_request-requires-clause-ordinary
unfolding request_fields IsOrdinary
push_request-requires-clause-ordinary c = let most = c.requires in (omega arith, (omega arith, (omega arith, tt)))

pub push_request-requires-clause-askable : goal.push_request-requires-clause-askable
unfolding request_number request_client
push_request-requires-clause-askable c = record { number = omega arith; client = tt }
