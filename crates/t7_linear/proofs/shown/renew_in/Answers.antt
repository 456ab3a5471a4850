use Rattle.t7_mbook.specs.Changes.{renewed_resting}
use Rattle.t7_book.proofs.ListLemmas.{mapped_more}
use Rattle.t7_linear.proofs.shown.renew_in.Goals as goal

pub loop-y-preserved : goal.loop-y-preserved
loop-y-preserved c =
    mapped_more (renewed_resting c.args.x.now) c.deref_mut-y-items.result.now c.loop-y.y-items c.loop-y.y-index c.y-item.result c.renewed_resting.result
    c.loop-y-test.true c.loop-y.invariant c.renewed_resting.ensures
