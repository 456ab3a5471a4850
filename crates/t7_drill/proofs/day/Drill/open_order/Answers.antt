-- The order is that of the drill.
use Rattle.std.proofs.Common.{◌+◌, arith, refl, subst, ap, ◌∙◌}
use Rattle.t7_eti.specs.declared.request.Request.{Request}
use Rattle.t7_drill.specs.Asking.{opening}
use Rattle.t7_drill.specs.Kits.{Kit, Stands, world_of}
use Rattle.t7_drill.specs.Worlds.{counted, entered, opened}
use Rattle.t7_drill.proofs.Standing.{along}
use Rattle.t7_drill.proofs.day.Drill.open_order.Goals as goal

pub returns-clause-stands : goal.returns-clause-stands
returns-clause-stands c = λ w stands.
    let old = c.args.self.now in
    along (opened c.args.i) w old c.after.new.self stands
    (λ acts came heard.
    let world = world_of old acts came in
    let went = c.in_ok-enter.ensures.stands world (record { is = refl; heard = heard }) in
    let same = c.opening-request.ensures.request ∙ ap (λ (k : Kit). opening k.first c.args.i) c.self.view_is in
    let by_request = subst (λ (r : Request). Stands (counted 1 (entered 1 r world)) c.enter.new.self) same went in
    c.after.ensures.stands (counted 1 (entered 1 (opening old.first c.args.i) world)) by_request)

pub after-requires : goal.after-requires
after-requires c = c.in_ok-enter.ensures.within 99_999 c.requires

pub returns-clause-within : goal.returns-clause-within
returns-clause-within c = λ n within.
    let low = within.snaps in
    let same = c.in_ok-enter.ensures.snaps in
    c.after.ensures.within (n + 1) (c.in_ok-enter.ensures.within n within) (omega arith)
