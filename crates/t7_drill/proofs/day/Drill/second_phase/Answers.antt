-- Each request is that of the drill.
use Rattle.std.proofs.Common.{◌≡◌, ◌+◌, sym, subst, arith}
use Rattle.t7_drill.specs.Kits.{Stands, Within}
use Rattle.t7_drill.specs.Worlds.{World, second_phase}
use Rattle.t7_drill.proofs.Standing.{second_more}
use Rattle.t7_drill.proofs.day.Drill.second_phase.Goals as goal

pub loop-i-init : goal.loop-i-init
unfolding second_phase
loop-i-init c = record {
  stands = λ w stands. stands;
  within = (let none : 20012 ≡ 20012 + 0 = omega arith in subst (λ n. Within n c.args.self.now) none c.requires.within);
}

pub loop-i-preserved : goal.loop-i-preserved
loop-i-preserved c = record {
  stands = λ w stands. subst (λ (x : World). Stands x c.step.new.self) (sym (second_more c.loop-i.i w))
      (c.in_ok-step.ensures.stands _ (c.loop-i.invariant.stands w stands));
  within = (let more : 20012 + c.loop-i.i + 1 ≡ 20012 + (c.loop-i.i + 1) = omega arith in
      subst (λ n. Within n c.step.new.self) more (c.in_ok-step.ensures.within (20012 + c.loop-i.i) c.loop-i.invariant.within));
}
