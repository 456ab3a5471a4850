use Rattle.std.proofs.Common.{FitsSigned, w64, arith, rules}
use Rattle.std.proofs.lemmas.Int.{to_z-of_z}
use Rattle.t7_fields.specs.Writing.{IsOrdinary}
use Rattle.t7_eti.specs.Requests.{request_client, request_number}
use Rattle.t7_eti.specs.Saying.{request_fields}
use Rattle.t7_client.proofs.Numbers.{above_least, next_small, positive, side_ordinary}
use Rattle.t7_client.proofs.client.Client.order.Goals as goal

pub make-requires-clause-ordinary : goal.make-requires-clause-ordinary
unfolding request_fields IsOrdinary
make-requires-clause-ordinary c =
    let small = next_small c.self.inside.machine c.self.invariant in
    let security : FitsSigned w64 c.security.inside.0 = search rules in
    let price : FitsSigned w64 c.get.result = search rules in
    let qty : FitsSigned w64 c.get-2.result = search rules in (
      omega arith,
      (
        rw c.side_number.ensures (side_ordinary c.args.side),
        (
          rw (to_z-of_z w64 c.security.inside.0 security, c.security.view_is) (positive c.args.security c.requires.security.0),
          (
            omega arith,
            (
              rw (to_z-of_z w64 c.get.result price, c.get.ensures.value) (above_least c.args.price c.get.ensures.in_range.0),
              (rw (to_z-of_z w64 c.get-2.result qty, c.get-2.ensures.value) (positive _ c.get-2.ensures.in_range.0), tt),
            ),
          ),
        ),
      ),
    )

pub make-requires-clause-askable : goal.make-requires-clause-askable
unfolding request_number request_client
make-requires-clause-askable c = let small = next_small c.self.inside.machine c.self.invariant in record { number = omega arith; client = omega arith }
