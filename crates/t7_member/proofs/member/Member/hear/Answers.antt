use Rattle.std.proofs.Common.{◌∙◌, ap, subst}
use Rattle.t7_feed.specs.Arrivals.{Terms}
use Rattle.t7_member.specs.Keeping.{Image}
use Rattle.t7_member.specs.Steps.{Chains}
use Rattle.t7_member.proofs.Hear.{chains_terms, heard_by}
use Rattle.t7_member.proofs.member.Member.hear.Goals as goal

pub returns-clause-terms : goal.returns-clause-terms
returns-clause-terms c = chains_terms c.chain.ensures.chains ∙ c.settle-fresh.ensures.terms ∙ ap (λ (m : Image). m.terms) c.self.view_is

pub returns-clause-hears : goal.returns-clause-hears
returns-clause-hears c =
    let chains = subst (λ (t : Terms). Chains t.listing c.settle-fresh.new.self c.chain.new.self) c.settle-fresh.ensures.terms c.chain.ensures.chains in
    rw (← c.self.view_is) (heard_by c.self.inside.product.now c.args.number c.args.message c.put-put.result _ c.settle-fresh.new.self c.chain.new.self c.put-put.new.self.kept
    (rw c.self.invariant.window at c.put-put.ensures.kept) (rw (c.self.invariant.window, c.base.ensures) at c.put-put.ensures.answer)
    (rw (c.max-self-inside.ensures, c.put-put.ensures.same) at c.settle-fresh.ensures.settles) chains)
