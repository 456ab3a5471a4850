use Rattle.std.proofs.Common.{ℕ, sym, ◌∙◌, arith, Vec, Global}
use Rattle.t7_layout.proofs.LookupFacts.{at_end, at_next, field_found, field_next, past_fields}
use Rattle.t7_layout.proofs.templates.find_field.Goals as goal

pub returns-then-i-fields : goal.returns-then-i-fields
returns-then-i-fields c = sym (c.loop-i.invariant ∙ past_fields c.args.family c.args.name _ c.args.fields.now c.loop-i.i (omega arith))

pub returns-then-is_place : goal.returns-then-is_place
returns-then-is_place c =
    let next = at_next (λ (n : Vec ℕ Global). n.items) c.args.family c.args.name c.args.names.now c.args.fields.now c.loop-i.i c.index-names-i.result c.index-fields-i.result (omega arith) c.index-names-i.is (omega arith) c.index-fields-i.is in
    sym (c.loop-i.invariant ∙ next ∙ field_found c.args.family c.args.name _ _ _ _ (rw c.as_slice.ensures.value at (sym c.is_place.ensures ∙ c.if-is_place.true)))

pub loop-i-preserved : goal.loop-i-preserved
loop-i-preserved c =
    let next = at_next (λ (n : Vec ℕ Global). n.items) c.args.family c.args.name c.args.names.now c.args.fields.now c.loop-i.i c.index-names-i.result c.index-fields-i.result (omega arith) c.index-names-i.is (omega arith) c.index-fields-i.is in
    c.loop-i.invariant ∙ next ∙ field_next c.args.family c.args.name _ _ _ _ (rw c.as_slice.ensures.value at (sym c.is_place.ensures ∙ c.if-is_place.false))

pub returns : goal.returns
returns c = sym (c.loop-i.invariant ∙ at_end (λ (n : Vec ℕ Global). n.items) c.args.family c.args.name c.args.names.now c.args.fields.now c.loop-i.i (omega arith))
