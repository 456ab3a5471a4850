use Rattle.std.proofs.Common.{sym, ◌∙◌}
use Rattle.t7_eobi.proofs.RangeFacts.{says_goes}
use Rattle.t7_eobi.proofs.ranges.says_all.Goals as goal

pub loop-name-preserved : goal.loop-name-preserved
loop-name-preserved c =
    let (set, fit) = says_goes c.args.m.now c.args.names.now c.loop-name.name-index _ c.loop-name-test.true (sym c.if-not-says.ensures) in
    record { unset = sym set ∙ c.loop-name.invariant.unset; out = sym fit ∙ c.loop-name.invariant.out }
