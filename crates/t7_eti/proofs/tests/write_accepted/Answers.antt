use Rattle.std.proofs.Common.{arith}
use Rattle.t7_fields.specs.Writing.{IsOrdinary}
use Rattle.t7_eti.specs.declared.response.Response.TheVariants as response
use Rattle.t7_eti.specs.declared.response.Kept.TheVariants as kept
use Rattle.t7_eti.specs.Saying.{response_fields, kept_fields}
use Rattle.t7_eti.proofs.SayingFacts.{response_known}
use Rattle.t7_eti.proofs.tests.write_accepted.Goals as goal

pub write_response-requires-clause-known : goal.write_response-requires-clause-known
unfolding IsOrdinary response_fields kept_fields
write_response-requires-clause-known c = response_known c.args.table.now (response.Kept 1 (kept.New 1 9 c.args.stamp)) c.templates-templates.ensures.table (tt, (λ e. omega arith, (λ e. omega arith, (λ e. omega arith, tt))))
