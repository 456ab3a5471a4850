-- Each request is that of the drill.
use Rattle.std.proofs.Common.{◌≡◌, ◌+◌, sym, subst, arith}
use Rattle.t7_drill.specs.Kits.{Stands, Within}
use Rattle.t7_drill.specs.Worlds.{World, first_phase}
use Rattle.t7_drill.proofs.Standing.{first_more}
use Rattle.t7_drill.proofs.day.Drill.first_phase.Goals as goal

pub loop-i-init : goal.loop-i-init
unfolding first_phase
loop-i-init c = record {
  stands = λ w stands. stands;
  within = (let none : 12 ≡ 12 + 0 = omega arith in subst (λ n. Within n c.args.self.now) none c.requires.within);
}

pub loop-i-preserved : goal.loop-i-preserved
loop-i-preserved c = record {
  stands = λ w stands. subst (λ (x : World). Stands x c.open_order.new.self) (sym (first_more c.loop-i.i w))
      (c.in_ok-open_order.ensures.stands _ (c.loop-i.invariant.stands w stands));
  within = (let more : 12 + c.loop-i.i + 1 ≡ 12 + (c.loop-i.i + 1) = omega arith in
      subst (λ n. Within n c.open_order.new.self) more (c.in_ok-open_order.ensures.within (12 + c.loop-i.i) c.loop-i.invariant.within));
}
