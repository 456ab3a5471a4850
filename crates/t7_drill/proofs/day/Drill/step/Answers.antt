-- The step is that of the drill.
use Rattle.std.proofs.Common.{◌+◌, arith, refl, subst}
use Rattle.t7_eti.specs.declared.request.Request.{Request}
use Rattle.t7_drill.specs.Kits.{Stands, world_of}
use Rattle.t7_drill.specs.Worlds.{counted, entered, step, step_asked, step_conn}
use Rattle.t7_drill.proofs.Standing.{along, drawn_on, within_drawn}
use Rattle.t7_drill.proofs.day.Drill.step.Goals as goal

pub returns-clause-stands : goal.returns-clause-stands
returns-clause-stands c = λ w stands.
    let old = c.args.self.now in
    along (step c.args.i) w old c.after.new.self stands
    (λ acts came heard.
    let world = world_of old acts came in
    let drawn = record world { draw = (step_asked world).draw } in
    let there = drawn_on world old c.draw_step-conn.new.self (step_asked world).draw (record { is = refl; heard = heard }) c.draw_step-conn.ensures.state in
    let went = c.in_ok-enter.ensures.stands drawn there in
    let by_conn = subst (λ n. Stands (counted n (entered n c.draw_step-conn.result.1 drawn)) c.enter.new.self) c.draw_step-conn.ensures.conn went in
    let by_request = subst (λ (r : Request). Stands (counted (step_conn world)
    (entered (step_conn world) r drawn)) c.enter.new.self) c.draw_step-conn.ensures.request by_conn in
    c.after.ensures.stands _ by_request)

pub after-requires : goal.after-requires
after-requires c = c.in_ok-enter.ensures.within 99_999
    (within_drawn 99_999 c.args.self.now c.draw_step-conn.new.self _ c.requires c.draw_step-conn.ensures.state)

pub returns-clause-within : goal.returns-clause-within
returns-clause-within c = λ n within.
    let low = (within_drawn n c.args.self.now c.draw_step-conn.new.self _ within c.draw_step-conn.ensures.state).snaps in
    let same = c.in_ok-enter.ensures.snaps in
    c.after.ensures.within (n + 1) (c.in_ok-enter.ensures.within n
    (within_drawn n c.args.self.now c.draw_step-conn.new.self _ within c.draw_step-conn.ensures.state)) (omega arith)
