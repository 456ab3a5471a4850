use Rattle.std.proofs.Common.{arith, pos}
use Rattle.t7_fields.specs.Writing.{IsOrdinary}
use Rattle.t7_eti.specs.declared.request.Request.TheVariants as request
use Rattle.t7_eti.specs.Requests.{request_client, request_number}
use Rattle.t7_eti.specs.Saying.{request_fields}
use Rattle.t7_eti.proofs.SayingFacts.{request_known}
use Rattle.t7_eti.proofs.tests.write_order.Goals as goal

pub write_request-requires-clause-known : goal.write_request-requires-clause-known
unfolding IsOrdinary request_fields
write_request-requires-clause-known c = request_known c.args.table.now (request.New 2 (pos 1001) 1 (pos 100) (pos 50) 9) c.templates-templates.ensures.table (λ e. omega arith, (λ e. omega arith, (λ e. cc e, (λ e. omega arith, (λ e. cc e, (λ e. cc e, tt))))))

pub write_request-requires-clause-askable : goal.write_request-requires-clause-askable
unfolding request_number request_client
write_request-requires-clause-askable c = record { number = omega arith; client = omega arith }
