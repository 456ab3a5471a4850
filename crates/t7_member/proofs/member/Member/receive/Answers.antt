use Rattle.std.proofs.Common.{max, sym, ap, subst, ◌∙◌}
use Rattle.t7_eobi.specs.Faults.{Reading}
use Rattle.t7_mbook.specs.State.{MarketState}
use Rattle.t7_feed.specs.Arrivals.{greatest_named, Terms}
use Rattle.std.proofs.Common.{Some, None}
use Rattle.t7_eobi.specs.Datagrams.{packet_number, snaps_of}
use Rattle.t7_snapshot.specs.Store.{seen}
use Rattle.t7_member.specs.Taking.{Stages}
use Rattle.t7_member.specs.Inside.{image_of}
use Rattle.t7_member.specs.Keeping.{Image}
use Rattle.t7_member.specs.Standing.{base_of, refusal_of}
use Rattle.t7_member.proofs.Hear.{chains_terms}
use Rattle.t7_member.proofs.Assembling.{adoption, image_adopted, image_after, no_adoption}
use Rattle.t7_member.proofs.member.Member.receive.Goals as goal

pub returns-clause-terms : goal.returns-clause-terms
returns-clause-terms c = chains_terms c.chain.ensures.chains ∙ ap (λ (m : Image). m.terms) c.self.view_is

pub returns-in_default-clause-receives : goal.returns-in_default-clause-receives
returns-in_default-clause-receives c =
    let member = image_of c.self.inside in
    let s = c.stage_from-staged.ensures in
    let number = packet_number c.args.packet.now.reading.layouts c.args.packet.now.bytes in
    let snaps = snaps_of c.args.packet.now.reading.layouts c.args.packet.now.bytes in
    let reading = rw (← c.self.view_is) at c.requires.reading in
    let layouts = ap (λ (r : Reading). r.layouts) reading in
    let here = ap (λ (t : Terms). record { terms = t; highest = c.self.inside.assembler.highest; ring = c.self.inside.assembler.ring }) (sym c.self.invariant.terms) in
    let known = c.max-self-inside.ensures ∙ ap (λ n. max n c.self.inside.known) (c.greatest_named.ensures ∙ ap greatest_named c.snap.ensures.items) in
    let stages = subst (λ (t : Terms). Stages t.listing.securities (seen c.stage_from-staged.new.assembler) number (base_of c.self.inside.standing) (refusal_of c.self.inside.standing) c.stage_from-staged.new.book.staged None) c.self.invariant.terms (rw (c.base.ensures, c.refusal.ensures) at c.in_default.ensures.stages) in
    rw (← c.self.view_is) (no_adoption member _ c.self.inside.assembler c.stage_from-staged.new.assembler c.args.packet.now.reading.layouts c.args.packet.now.bytes c.stage_from-staged.new.book.staged
    layouts here s.takes stages (image_after member _ _ _ _ number snaps s.orders s.takes.highest known))

pub returns-clause-receives : goal.returns-clause-receives
returns-clause-receives c =
    let member = image_of c.self.inside in
    let s = c.stage_from-staged.ensures in
    let number = packet_number c.args.packet.now.reading.layouts c.args.packet.now.bytes in
    let snaps = snaps_of c.args.packet.now.reading.layouts c.args.packet.now.bytes in
    let reading = rw (← c.self.view_is) at c.requires.reading in
    let layouts = ap (λ (r : Reading). r.layouts) reading in
    let here = ap (λ (t : Terms). record { terms = t; highest = c.self.inside.assembler.highest; ring = c.self.inside.assembler.ring }) (sym c.self.invariant.terms) in
    let known = c.max-self-inside.ensures ∙ ap (λ n. max n c.self.inside.known) (c.greatest_named.ensures ∙ ap greatest_named c.snap.ensures.items) in
    let stages = subst (λ (t : Terms). Stages t.listing.securities (seen c.stage_from-staged.new.assembler) number (base_of c.self.inside.standing) (refusal_of c.self.inside.standing) c.stage_from-staged.new.book.staged (Some c.in-Some.m)) c.self.invariant.terms (rw (c.base.ensures, c.refusal.ensures) at c.in-Some.ensures.stages) in
    rw (← c.self.view_is) (adoption member _ c.chain.new.self c.self.inside.assembler c.stage_from-staged.new.assembler c.args.packet.now.reading.layouts c.args.packet.now.bytes c.stage_from-staged.new.book.staged c.in-Some.m
    layouts here s.takes stages (image_adopted member c.in-Some.m _ c.stage_from-staged.new.book.staged _ _ _ number snaps (ap (λ (b : MarketState). b.orders) c.adopt.ensures) s.takes.highest known) c.chain.ensures.chains)
