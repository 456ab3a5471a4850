use Rattle.std.proofs.Common.{rules, ◌≡◌, Ok, Err}
use Rattle.t7_base.specs.declared.ids.Feed.TheVariants.{LiveA, LiveB, SnapA, SnapB}
use Rattle.t7_outcome.specs.declared.ending.Stop.TheVariants.{NetFault}
use Rattle.t7_serve.proofs.Asking.{asks_both, asks_first, pair_of}
use Rattle.t7_serve.proofs.command.bind_all.Goals as goal

pub returns-in_err-bind_pair-clause-asked : goal.returns-in_err-bind_pair-clause-asked
returns-in_err-bind_pair-clause-asked g c =
    let at = c.args.addresses.now in
    let is : c.bind_pair.result ≡ Err NetFault = search rules in
    let ended : c.from_residual.result ≡ Err NetFault = search rules in
    asks_first _ _ (pair_of LiveA at.live_a.now LiveB at.live_b.now) (pair_of SnapA at.snap_a.now SnapB at.snap_b.now) c.bind_pair.result
    c.from_residual.result is ended
    c.bind_pair.ensures.asked

pub returns-clause-asked : goal.returns-clause-asked
returns-clause-asked g c =
    let at = c.args.addresses.now in
    let is : c.bind_pair.result ≡ Ok c.in_ok-bind_pair.field-0 = search rules in
    asks_both _ _ _ (pair_of LiveA at.live_a.now LiveB at.live_b.now) (pair_of SnapA at.snap_a.now SnapB at.snap_b.now) c.bind_pair.result _
    c.bind_pair-2.result is
    c.bind_pair.ensures.asked c.bind_pair-2.ensures.asked
