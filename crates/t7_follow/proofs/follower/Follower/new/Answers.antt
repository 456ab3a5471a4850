use Rattle.t7_follow.proofs.Keeping.{stands_new}
use Rattle.t7_follow.proofs.follower.Follower.new.Goals as goal

pub returns-clause-stands : goal.returns-clause-stands
returns-clause-stands c =
    let kept = c.in_ok-new.ensures in
    stands_new (record { layouts = c.args.table.now; listing = c.args.product.now }) c.in_ok-new.field-0 c.new-2.result kept.terms kept.tallies kept.bad kept.keeps c.new-2.ensures
