use Rattle.std.proofs.Common.{◌∙◌, sym, arith}
use Rattle.t7_layout.proofs.IndexFacts.{place_here, place_next, place_past}
use Rattle.t7_layout.proofs.index.place_of_role.Goals as goal

pub returns-then-is_layout_of : goal.returns-then-is_layout_of
returns-then-is_layout_of c =
    let here = place_here c.args.templates.now c.args.role c.loop-place.place c.index-templates-place.result (omega arith) c.index-templates-place.is (sym c.is_layout_of.ensures ∙ c.if-is_layout_of.true) in
    omega (arith, c.loop-place.invariant, here)

pub loop-place-preserved : goal.loop-place-preserved
loop-place-preserved c =
    let next = place_next c.args.templates.now c.args.role c.loop-place.place c.index-templates-place.result (omega arith) c.index-templates-place.is (sym c.is_layout_of.ensures ∙ c.if-is_layout_of.false) in
    omega (arith, c.loop-place.invariant, next)

pub returns : goal.returns
returns c =
    let past = place_past c.args.templates.now c.args.role c.loop-place.place (omega arith) in
    omega (arith, c.loop-place.invariant, past)
