use Rattle.std.proofs.Common.{ap, arith, sym, ◌∙◌}
use Rattle.t7_member.specs.Inside.{image_of}
use Rattle.t7_member.specs.Keeping.{Image}
use Rattle.t7_member.specs.Steps.{ends}
use Rattle.t7_member.proofs.Hear.{rests_none, rests_some}
use Rattle.t7_member.proofs.Standings.{base_at, base_none}
use Rattle.t7_member.proofs.Chaining.{chain_turn_at, turn_smaller}
use Rattle.t7_member.proofs.member.Member.chain.Goals as goal

pub loop-self-preserved : goal.loop-self-preserved
loop-self-preserved c =
    let took = c.take_next.ensures in
    let terms = ap (λ (m : Image). m.terms) c.self.view_is ∙ c.loop-self.invariant.terms in
    record {
      terms = c.advance.ensures.terms ∙ terms;
      goes = λ new rest. c.loop-self.invariant.goes new (rw (← c.self.view_is)
          (chain_turn_at _ c.args.self.now.terms terms _ c.advance.new.self new c.in-At.n c.in-Some.message c.take_next.new.self.kept
          (base_at c.self.inside.standing c.in-At.n c.in-At.is) (sym c.in-Some.ensures.answer) took.kept (rw took.same at c.advance.ensures.fits) (rw took.same at c.advance.ensures.misfits) rest));
    }

pub loop-self-smaller : goal.loop-self-smaller
loop-self-smaller c =
    let took = c.take_next.ensures in
    let room = c.self.invariant.top in
    let bound = c.in-Some.ensures.bound in
    rw (← c.self.view_is) (turn_smaller (record { layouts = c.self.inside.table.now; listing = c.self.inside.product.now }) (image_of c.self.inside) c.advance.new.self c.in-At.n c.in-Some.message c.take_next.new.self.kept (base_at c.self.inside.standing c.in-At.n c.in-At.is) (omega arith) (rw took.same at c.advance.ensures.fits) (rw took.same at c.advance.ensures.misfits))

pub returns-in_default-take_next : goal.returns-in_default-take_next
returns-in_default-take_next c = record {
  chains = c.loop-self.invariant.goes _ (rw c.in_default-take_next.ensures.none (rw c.self.view_is
      (ends (rests_some c.loop-self.self c.in-At.n (rw (← c.self.view_is) (base_at c.self.inside.standing c.in-At.n c.in-At.is)) (rw (← c.self.view_is) (sym c.in_default-take_next.ensures.answer))))));
}

pub returns-in_default : goal.returns-in_default
returns-in_default c = record { chains = c.loop-self.invariant.goes c.loop-self.self (ends (rests_none c.loop-self.self (rw (← c.self.view_is) (base_none c.self.inside.standing c.in_default.not-At)))) }
