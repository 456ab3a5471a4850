use Rattle.std.proofs.Common.{arith}
use Rattle.std.proofs.lemmas.Grind.{common_steps}
use Rattle.t7_book.proofs.StepLemmas.{crossing_some, crossing_none}
use Rattle.t7_linear.proofs.arrival.push_crossing.Goals as goal

-- something is left, and comes to rest
pub returns-in_ok-push-2 : goal.returns-in_ok-push-2
returns-in_ok-push-2 c =
    let all = crossing_some c.args.x.now c.args.trades.now c.in-Some.left c.in-Some.ensures.some.1 c.in-Some.ensures.some.0 in
    rw all (grind (arith, common_steps))

-- nothing is left
pub returns-in_default : goal.returns-in_default
returns-in_default c =
    let all = crossing_none c.args.x.now c.args.trades.now c.in_default.ensures.none in
    rw all (grind (arith, common_steps))
